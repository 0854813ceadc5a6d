-- Findings by their holders, and the way to them.
use Rattle.std.proofs.Common.{◌≡◌, ℕ, zero, suc, ◌+◌, ◌<◌, ◌≤◌, Bool, true, false, not, ◌&&◌, ◌||◌, List, [], ◌∷◌, length, filter, find, count_by, Option, Some, None, MatchOption, option_map, refl, sym, ap, ◌∙◌, subst, inl, inr, ⊎_elim, arith}
use Rattle.std.specs.Prelude.{if◌then◌else◌}
use Rattle.std.specs.List.{AllByRecursion, list_any}
use Rattle.std.specs.Option.{option_map_or}
use Rattle.std.proofs.lemmas.Bool.{and_from, and_parts, both_ways, cases_Bool, false_from_ne_true, not_from_false, or_cases, or_left, or_right}
use Rattle.std.proofs.lemmas.List.Sums.{count_by-le-length}
use Rattle.desk_text.specs.Code.{same_code}
use Rattle.desk_text.proofs.CodeLemmas.{same_code_itself}
use Rattle.desk_model.specs.declared.rows.line.LineRow.{LineRow}
use Rattle.desk_model.specs.declared.rows.material.MaterialRow.{MaterialRow}
use Rattle.desk_model.specs.declared.rows.part.PartRow.{PartRow}
use Rattle.desk_model.specs.Lists.{IsOrdered, Lists, is_kept, is_part, material_row, part_row}
use Rattle.desk_model.proofs.Anys.{any-and, any-append}
use Rattle.desk_model.proofs.Elements.{any_gives, any_same, count_less, each, each_both, each_filter, each_map, each_of_map}
use Rattle.desk_model.proofs.Kept.{found_each, kept_any, same_code-from, same_code-true}
use Rattle.desk_findings.specs.Above.{is_above}
use Rattle.desk_findings.specs.Articles.{is_article_sort}
use Rattle.desk_findings.specs.Bill.{IsBill}
use Rattle.desk_findings.specs.Chain.{chain, next_to}
use Rattle.desk_findings.specs.Findings.{Finding, above, findings_at, findings_of_article, findings_on, is_in, over, own_findings, rules_over, same_finding}
use Rattle.desk_findings.specs.Reaches.{is_or_reaches, lines_of, reaches}
use Rattle.desk_findings.proofs.Bill.{HasChildren, by_line, chain-step, has_parents, lines_of-none, next_each, not_itself, reaches-step}
use Rattle.desk_findings.proofs.Bill.{bill_induction}
use Rattle.desk_findings.proofs.FindingRolls.{by_lines}
use Rattle.desk_findings.proofs.FindingsOnce.{same_finding-true}
use Rattle.desk_findings.specs.Holders.{holder, next_of, way_within}

-- a finding among findings that a code holds is held by it
on_code : (finding : Finding) (code : List ℕ) (found : List Finding) → AllByRecursion (λ one. code ≡ holder one) found → is_in finding found ≡ true → code ≡ holder finding
on_code finding code found a e =
    any_gives (same_finding finding) found {G = code ≡ holder finding}
    (each_map (λ one. code ≡ holder one) (λ one. same_finding finding one ≡ true → code ≡ holder finding) (λ one is same. is ∙ sym (ap holder (same_finding-true finding one same))) found a) e

module _ (t : Lists) (finding : Finding) (code : List ℕ) where
  of_material : (o : Option MaterialRow) → material_row t code ≡ o → is_in finding (option_map_or (findings_on t) o []) ≡ true → code ≡ holder finding
  of_material None found e = absurd (Rattle.std.proofs.lemmas.Bool.false≢true e)
  of_material (Some material) found e =
      let is = (found_each (λ row. row.code) (λ row. Unit {0}) code t.materials material (each (λ row. Unit {0}) (λ row. tt) t.materials) found).1 in
      on_code finding code (findings_on t material)
      (each_of_map (λ one. code ≡ holder one) (over material.code) (rules_over t material) (each (λ rule. code ≡ material.code) (λ rule. sym is) (rules_over t material))) e

  of_article : (o : Option PartRow) → part_row t code ≡ o → is_in finding (option_map_or (λ part. if is_article_sort part.sort then findings_of_article t part else []) o []) ≡ true → code ≡ holder finding
  of_article None found e = absurd (Rattle.std.proofs.lemmas.Bool.false≢true e)
  of_article (Some part) found e =
      elim (is_article_sort part.sort) as (λ b. is_in finding (if b then findings_of_article t part else []) ≡ true → code ≡ holder finding) [
        | true ↦ λ h.
            let is = (found_each (λ row. row.code) (λ row. Unit {0}) code t.parts part (each (λ row. Unit {0}) (λ row. tt) t.parts) found).1 in
            on_code finding code (findings_of_article t part)
            (each_of_map (λ one. code ≡ holder one) (λ candidate. above part.code candidate.substance) (filter (λ candidate. is_above t part.code candidate.substance) t.candidates)
            (each (λ candidate. code ≡ part.code) (λ candidate. sym is) (filter (λ candidate. is_above t part.code candidate.substance) t.candidates))) h
        | false ↦ λ h. absurd (Rattle.std.proofs.lemmas.Bool.false≢true h)
      ] e

  -- what a code has as its own, it holds
  pub own_held : is_in finding (own_findings t code) ≡ true → code ≡ holder finding
  unfolding own_findings
  own_held e =
      ⊎_elim (of_material (material_row t code) refl) (of_article (part_row t code) refl)
      (or_cases (is_in finding (option_map_or (findings_on t) (material_row t code) [])) (is_in finding (option_map_or (λ part. if is_article_sort part.sort then findings_of_article t part else []) (part_row t code) []))
      (sym (any-append (same_finding finding) (option_map_or (findings_on t) (material_row t code) []) (option_map_or (λ part. if is_article_sort part.sort then findings_of_article t part else []) (part_row t code) [])) ∙ e))

  own_at : is_in finding (own_findings t code) ≡ (same_code code (holder finding) && is_in finding (own_findings t (holder finding)))
  own_at =
      elim (cases_Bool (same_code code (holder finding))) [
        | inl same ↦ rw same (ap (λ c. is_in finding (own_findings t c)) (same_code-true code (holder finding) same))
        | inr other ↦
            rw other
            (false_from_ne_true (is_in finding (own_findings t code)) (λ own. both_ways (same_code code (holder finding)) other (same_code-from code (holder finding) (own_held own))))
      ]

and_or : (a b c : Bool) → (a && c || b && c) ≡ ((a || b) && c)
and_or true true true = refl
and_or true true false = refl
and_or true false true = refl
and_or true false false = refl
and_or false b c = refl

and_true : (a b : Bool) → b ≡ true → (a && b) ≡ a
and_true true b e = e
and_true false b e = refl

module _ (t : Lists) (ordered : IsOrdered t) (bill : IsBill t) (finding : Finding) where
  own : Bool
  own = is_in finding (own_findings t (holder finding))

  pub held : (code : List ℕ) → is_in finding (findings_at t code) ≡ (is_or_reaches t code (holder finding) && is_in finding (own_findings t (holder finding)))
  held =
      bill_induction t (has_parents t bill.parents) bill.acyclic (λ code. is_in finding (findings_at t code) ≡ (is_or_reaches t code (holder finding) && is_in finding (own_findings t (holder finding))))
      (λ code below.
      by_lines t ordered (has_parents t bill.parents) finding code
      ∙ ap (λ b. b || list_any (λ line. is_in finding (findings_at t line.child)) (lines_of t.lines code)) (own_at t finding code)
      ∙ ap (λ b. (same_code code (holder finding) && is_in finding (own_findings t (holder finding))) || b)
      (any_same (λ line. is_in finding (findings_at t line.child)) (λ line. is_or_reaches t line.child (holder finding) && is_in finding (own_findings t (holder finding))) (lines_of t.lines code) below
      ∙ sym (any-and (λ line. is_or_reaches t line.child (holder finding)) (is_in finding (own_findings t (holder finding))) (lines_of t.lines code)))
      ∙ and_or (same_code code (holder finding)) (list_any (λ line. is_or_reaches t line.child (holder finding)) (lines_of t.lines code)) (is_in finding (own_findings t (holder finding)))
      ∙ ap (λ b. (same_code code (holder finding) || b) && is_in finding (own_findings t (holder finding))) (sym (reaches-step t (has_parents t bill.parents) (holder finding) code)))

  -- where the holder has it, a finding is where its holder is or is reached
  found_is : is_in finding (own_findings t (holder finding)) ≡ true → (code : List ℕ) → is_in finding (findings_at t code) ≡ is_or_reaches t code (holder finding)
  found_is has code = held code ∙ and_true (is_or_reaches t code (holder finding)) (is_in finding (own_findings t (holder finding))) has

  pub next_is : is_in finding (own_findings t (holder finding)) ≡ true → (code : List ℕ) → option_map (λ line. line.child) (find (λ line. is_in finding (findings_at t line.child)) (lines_of t.lines code)) ≡ next_to t code (holder finding)
  next_is has code = ap (λ (test : LineRow → Bool). option_map (λ line. line.child) (find test (lines_of t.lines code))) (λ i line. found_is has line.child i)

  next_of_is : is_in finding (own_findings t (holder finding)) ≡ true → (code : List ℕ) → next_of t finding code ≡ (if same_code code (holder finding) then None else next_to t code (holder finding))
  next_of_is has code =
      ap (λ b. if b then None else option_map (λ line. line.child) (find (λ line. is_in finding (findings_at t line.child)) (lines_of t.lines code)))
      (own_at t finding code ∙ and_true (same_code code (holder finding)) (is_in finding (own_findings t (holder finding))) has)
      ∙ ap (λ next. if same_code code (holder finding) then None else next) (next_is has code)

  -- how many parts a code is or reaches
  height : List ℕ → ℕ
  height code = count_by (λ part. is_or_reaches t code part.code) t.parts

  height-le : (code : List ℕ) → height code ≤ length t.parts
  unfolding height
  height-le code = count_by-le-length (λ part. is_or_reaches t code part.code) t.parts

  -- a part is one of them
  height_of_part : (code : List ℕ) → is_part t code ≡ true → 0 < height code
  unfolding height
  height_of_part code kept =
      let more : count_by (λ part. false) t.parts < count_by (λ part. is_or_reaches t code part.code) t.parts =
      count_less (λ part. false) (λ part. is_or_reaches t code part.code) t.parts (each (λ part. false ≡ true → is_or_reaches t code part.code ≡ true) (λ part e. absurd (Rattle.std.proofs.lemmas.Bool.false≢true e)) t.parts)
      (kept_any (λ row. row.code) (λ c. is_or_reaches t code c && true) code t.parts kept (and_from (is_or_reaches t code code) true (or_left (same_code code code) (reaches t code code) (same_code_itself code)) refl)) in
      omega (arith, more)

  falls : (line : LineRow) → ((target : List ℕ) → is_or_reaches t line.child target ≡ true → reaches t line.parent target ≡ true) → is_part t line.parent ≡ true → height line.child < height line.parent
  unfolding height
  falls line by kept =
      count_less (λ part. is_or_reaches t line.child part.code) (λ part. is_or_reaches t line.parent part.code) t.parts
      (each (λ part. is_or_reaches t line.child part.code ≡ true → is_or_reaches t line.parent part.code ≡ true) (λ part e. or_right (same_code line.parent part.code) (reaches t line.parent part.code) (by part.code e)) t.parts)
      (kept_any (λ row. row.code) (λ code. is_or_reaches t line.parent code && not (is_or_reaches t line.child code)) line.parent t.parts kept
      (and_from (is_or_reaches t line.parent line.parent) (not (is_or_reaches t line.child line.parent)) (or_left (same_code line.parent line.parent) (reaches t line.parent line.parent) (same_code_itself line.parent))
      (not_from_false (is_or_reaches t line.child line.parent)
      (false_from_ne_true (is_or_reaches t line.child line.parent) (λ back. both_ways (reaches t line.parent line.parent) (not_itself t (has_parents t bill.parents) bill.acyclic line.parent kept) (by line.parent back))))))

  -- each child of a code is kept and less high
  below : HasChildren t → (code : List ℕ) → AllByRecursion (λ line. (is_kept t line.child ≡ true) × (height line.child < height code)) (lines_of t.lines code)
  below children code =
      each_map (λ line. ((is_kept t line.child ≡ true) × (height line.child < height line.parent)) × (same_code line.parent code ≡ true)) (λ line. (is_kept t line.child ≡ true) × (height line.child < height code))
      (λ line h. (h.0.0, subst (λ c. height line.child < height c) (same_code-true line.parent code h.1) h.0.1)) (lines_of t.lines code)
      (each_filter (λ line. (is_kept t line.child ≡ true) × (height line.child < height line.parent)) (λ line. same_code line.parent code) t.lines
      (each_both (λ line. is_kept t line.child ≡ true) (λ line. height line.child < height line.parent) t.lines children
      (each_map (λ line. ((target : List ℕ) → is_or_reaches t line.child target ≡ true → reaches t line.parent target ≡ true) × (is_part t line.parent ≡ true)) (λ line. height line.child < height line.parent) (λ line h. falls line h.0 h.1) t.lines
      (each_both (λ line. (target : List ℕ) → is_or_reaches t line.child target ≡ true → reaches t line.parent target ≡ true) (λ line. is_part t line.parent ≡ true) t.lines (by_line t (has_parents t bill.parents)) (has_parents t bill.parents)))))

  module _ (children : HasChildren t) (next : List ℕ → Option (List ℕ)) (right : (code : List ℕ) → is_kept t code ≡ true → is_in finding (findings_at t code) ≡ true → next code ≡ next_of t finding code) where
    way-suc : (k : ℕ) (code : List ℕ) → way_within next (suc k) code ≡ option_map_or (λ child. child ∷ way_within next k child) (next code) []
    unfolding way_within
    way-suc k code = refl

    way-zero : (code : List ℕ) → way_within next zero code ≡ []
    unfolding way_within
    way-zero code = refl

    next_is_for : (code : List ℕ) → is_kept t code ≡ true → is_in finding (findings_at t code) ≡ true → next code ≡ (if same_code code (holder finding) then None else next_to t code (holder finding))
    next_is_for code kept found =
        right code kept found
        ∙ next_of_is (and_parts (is_or_reaches t code (holder finding)) (is_in finding (own_findings t (holder finding))) (sym (held code) ∙ found)).1 code

    -- the way on from a code, by whether it is the holder and by its next child
    by_next : (k : ℕ) (code : List ℕ) (same : Bool) (o : Option (List ℕ)) →
        MatchOption o (list_any (λ line. is_or_reaches t line.child (holder finding)) (lines_of t.lines code) ≡ false)
        (λ child. (child ∷ way_within next k child ≡ chain t child (holder finding)) × (is_or_reaches t child (holder finding) ≡ true) × (list_any (λ line. is_or_reaches t line.child (holder finding)) (lines_of t.lines code) ≡ true)) →
        code ∷ option_map_or (λ child. child ∷ way_within next k child) (if same then None else o) [] ≡ (if same then code ∷ [] else code ∷ option_map_or (λ child. chain t child (holder finding)) o [])
    by_next k code true o h = refl
    by_next k code false None h = refl
    by_next k code false (Some child) h = ap (λ rest. code ∷ rest) h.0

    same_either : (b : Bool) (code : List ℕ) → code ∷ [] ≡ (if b then code ∷ [] else code ∷ [])
    same_either true code = refl
    same_either false code = refl

    way-is : (k : ℕ) (code : List ℕ) → is_kept t code ≡ true → is_in finding (findings_at t code) ≡ true → height code ≤ k → code ∷ way_within next k code ≡ chain t code (holder finding)
    way-is zero code kept found h =
        let absent : is_part t code ≡ false = false_from_ne_true (is_part t code) (λ part. absurd (omega (arith, height_of_part code part, h))) in
        let nowhere : next_to t code (holder finding) ≡ None = rw (lines_of-none t (has_parents t bill.parents) code absent) refl in
        ap (λ rest. code ∷ rest) (way-zero code)
        ∙ same_either (same_code code (holder finding)) code
        ∙ ap (λ o. if same_code code (holder finding) then code ∷ [] else code ∷ option_map_or (λ child. chain t child (holder finding)) o []) (sym nowhere)
        ∙ sym (chain-step t (has_parents t bill.parents) bill.acyclic (holder finding) code)
    way-is (suc k) code kept found h =
        ap (λ rest. code ∷ rest) (way-suc k code ∙ ap (λ o. option_map_or (λ child. child ∷ way_within next k child) o []) (next_is_for code kept found))
        ∙ by_next k code (same_code code (holder finding)) (next_to t code (holder finding)) (each_next (λ child. way-is k child) (next_to t code (holder finding)) (next_each t (has_parents t bill.parents) bill.acyclic (holder finding) (λ child. (is_kept t child ≡ true) × (height child < height code)) code (below children code)))
        ∙ sym (chain-step t (has_parents t bill.parents) bill.acyclic (holder finding) code)
      where
        has : is_in finding (own_findings t (holder finding)) ≡ true
        has = (and_parts (is_or_reaches t code (holder finding)) (is_in finding (own_findings t (holder finding))) (sym (held code) ∙ found)).1

        each_next : ((child : List ℕ) → is_kept t child ≡ true → is_in finding (findings_at t child) ≡ true → height child ≤ k → child ∷ way_within next k child ≡ chain t child (holder finding)) → (o : Option (List ℕ)) →
            MatchOption o (list_any (λ line. is_or_reaches t line.child (holder finding)) (lines_of t.lines code) ≡ false)
            (λ child. ((is_kept t child ≡ true) × (height child < height code)) × (is_or_reaches t child (holder finding) ≡ true) × (list_any (λ line. is_or_reaches t line.child (holder finding)) (lines_of t.lines code) ≡ true)) →
            MatchOption o (list_any (λ line. is_or_reaches t line.child (holder finding)) (lines_of t.lines code) ≡ false)
            (λ child. (child ∷ way_within next k child ≡ chain t child (holder finding)) × (is_or_reaches t child (holder finding) ≡ true) × (list_any (λ line. is_or_reaches t line.child (holder finding)) (lines_of t.lines code) ≡ true))
        each_next later None g = g
        each_next later (Some child) g = (later child g.0.0 (found_is has child ∙ g.1) (omega (arith, g.0.1, h)), g.1, g.2)

    pub way-is_chain : (more : ℕ) (code : List ℕ) → is_kept t code ≡ true → is_in finding (findings_at t code) ≡ true → code ∷ way_within next (more + length t.parts) code ≡ chain t code (holder finding)
    way-is_chain more code kept found = way-is (more + length t.parts) code kept found (omega (arith, height-le code))
