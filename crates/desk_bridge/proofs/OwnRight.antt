-- Own values that are made from rows are those of their codes.
use Rattle.std.proofs.Common.{◌≡◌, ℕ, ◌+◌, ◌*◌, ◌≤◌, Bool, true, false, ◌&&◌, List, [], ◌∷◌, ◌++◌, filter, length, map, Option, Some, None, is_some, refl, sym, ap, ◌∙◌, subst, inl, inr}
use Rattle.std.specs.Prelude.{◌==◌, if◌then◌else◌, nat_lt}
use Rattle.std.specs.List.{AllByRecursion, list_any}
use Rattle.std.specs.Option.{option_map_or}
use Rattle.std.proofs.lemmas.Bool.{and_from, and_parts, cases_lt, false≢true, le-ltb, lt-ltb, true≢false}
use Rattle.std.proofs.lemmas.List.{get_or_past}
use Rattle.desk_text.specs.Code.{code_cmp, same_code}
use Rattle.desk_law.specs.Rule.{restricting_rules, rule_number}
use Rattle.desk_graph.specs.Graph.{label_of}
use Rattle.desk_rows.specs.Rows.{row_of}
use Rattle.desk_rollup.specs.declared.mark.Mark.{Mark}
use Rattle.desk_rollup.specs.Numbers.{has, mark_number, mark_numbers}
use Rattle.desk_rollup.specs.Values.{OwnValues, amount_of}
use Rattle.desk_model.specs.declared.rows.candidate.CandidateRow.{CandidateRow}
use Rattle.desk_model.specs.declared.rows.material.MaterialRow.{MaterialRow}
use Rattle.desk_model.specs.declared.rows.part.PartRow.{PartRow}
use Rattle.desk_model.specs.Lists.{Lists, candidate_row, is_material, material_row, part_row}
use Rattle.desk_model.proofs.Elements.{any-filter, any-map, any_gives, each, each_map}
use Rattle.desk_model.proofs.Kept.{found_any, found_each}
use Rattle.desk_findings.specs.Above.{content, is_above, is_candidate}
use Rattle.desk_findings.specs.Articles.{is_article, is_article_sort}
use Rattle.desk_findings.specs.Carried.{own_load}
use Rattle.desk_findings.specs.Findings.{Finding, above, findings_of_article, findings_on, over, own_findings}
use Rattle.desk_findings.specs.Mass.{mass}
use Rattle.desk_findings.specs.Share.{is_over_limit}
use Rattle.desk_history.specs.Sound.{IsConsistent}
use Rattle.desk_bridge.specs.AfterEdit.{IsOwnOf}
use Rattle.desk_findings.specs.Numbering.{has_numbered}
use Rattle.desk_bridge.specs.Bridge.{place_of}
use Rattle.desk_bridge.specs.Numbers.{AreNames, finding_number}
use Rattle.desk_bridge.proofs.Bridges.{right_tables}
use Rattle.desk_findings.proofs.OwnValues.{of_material, of_other}
use Rattle.desk_bridge.specs.declared.holdings.Holding.{Holding}
use Rattle.desk_bridge.specs.Own.{AreAbove, amount_held, holding_mark, rule_mark}

none_of : {X : Type 0} (o : Option X) → is_some o ≡ false → o ≡ None
none_of None e = refl
none_of (Some x) e = absurd (true≢false e)

both_same : (a b : Bool) → (a ≡ true → b ≡ true) → (b ≡ true → a ≡ true) → a ≡ b
both_same true b there back = sym (there refl)
both_same false true there back = back refl
both_same false false there back = refl

-- marks with the numbers of findings
numbers_same : {X : Type 0} (labels names : List (List ℕ)) (m : X → Mark) (f : X → Finding) (xs : List X) → ((x : X) → mark_number (m x) ≡ finding_number labels names (f x)) →
    (n : ℕ) → has (mark_numbers (map m xs)) n ≡ has_numbered (finding_number labels names) (map f xs) n
numbers_same labels names m f [] same n = refl
numbers_same labels names m f (x ∷ xs) same n = rw (same x, numbers_same labels names m f xs same n) refl

module _ (t : Lists) (s : IsConsistent t) (names labels : List (List ℕ)) (code : List ℕ) (node : ℕ) (place : place_of labels code ≡ node) where
  -- a material
  pub material_own : (row : MaterialRow) → material_row t code ≡ Some row → (own : OwnValues) →
      own ≡ record { node = node; weight = row.mass; marks = map (rule_mark node) (filter (λ rule. is_over_limit t rule row) restricting_rules); loads = [] } →
      IsOwnOf t (finding_number labels names) (label_of names) code own
  material_own row e own is =
      let has_own = of_material t (right_tables t s) code row e in
      let same : row.code ≡ code = (found_each (λ r. r.code) (λ r. Unit {0}) code t.materials row (each (λ r. Unit {0}) (λ r. tt) t.materials) e).1 in
      subst (IsOwnOf t (finding_number labels names) (label_of names) code) (sym is)
      (record {
        weight = sym has_own.0;
        marks = λ n.
            numbers_same labels names (rule_mark node) (over row.code) (filter (λ rule. is_over_limit t rule row) restricting_rules)
            (λ rule. ap (λ p. p * 4294967296 + rule_number rule) (sym place ∙ ap (place_of labels) (sym same))) n
            ∙ ap (λ found. has_numbered (finding_number labels names) found n) (sym has_own.2);
        loads = λ n. sym (has_own.3 (label_of names n));
      })

  -- an assembly, or what isn't kept
  pub other_own : is_material t code ≡ false → is_article t code ≡ false → (own : OwnValues) → own ≡ record { node = node; weight = 0; marks = []; loads = [] } → IsOwnOf t (finding_number labels names) (label_of names) code own
  other_own material article own is =
      let has_own = of_other t code material article in
      subst (IsOwnOf t (finding_number labels names) (label_of names) code) (sym is)
      (record {
        weight = sym has_own.0;
        marks = λ n. ap (λ found. has_numbered (finding_number labels names) found n) (sym has_own.1);
        loads = λ n. sym (has_own.2 (label_of names n));
      })

  -- an article
  module _ (material : is_material t code ≡ false) (article : is_article t code ≡ true) where
    own_of_part : (o : Option PartRow) → part_row t code ≡ o → option_map_or (λ part. is_article_sort part.sort) o false ≡ true →
        option_map_or (λ part. if is_article_sort part.sort then findings_of_article t part else []) o [] ≡ map (λ candidate. above code candidate.substance) (filter (λ candidate. is_above t code candidate.substance) t.candidates)
    own_of_part None e h = absurd (false≢true h)
    own_of_part (Some part) e h =
        let same : part.code ≡ code = (found_each (λ r. r.code) (λ r. Unit {0}) code t.parts part (each (λ r. Unit {0}) (λ r. tt) t.parts) e).1 in
        ap (λ b. if b then findings_of_article t part else []) h
        ∙ ap (λ c. map (λ candidate. above c candidate.substance) (filter (λ candidate. is_above t c candidate.substance) t.candidates)) same

    article_findings : own_findings t code ≡ map (λ candidate. above code candidate.substance) (filter (λ candidate. is_above t code candidate.substance) t.candidates)
    unfolding own_findings
    article_findings =
        ap (λ o. option_map_or (findings_on t) o [] ++ option_map_or (λ part. if is_article_sort part.sort then findings_of_article t part else []) (part_row t code) []) (none_of (material_row t code) material)
        ∙ own_of_part (part_row t code) refl article

    no_load : AreNames t names → (n : ℕ) → length names ≤ n → own_load t (label_of names n) code ≡ 0
    unfolding is_above
    no_load named n past =
        ap (λ name. own_load t name code) (get_or_past names n [] past)
        ∙ ap (λ b. if is_article t code && b then content t code [] else 0) (ap (λ b. b && nat_lt (mass t code) (1000 * content t code [])) named.nameless)
        ∙ nothing (is_article t code) (content t code [])
      where
        nothing : (b : Bool) (n : ℕ) → (if b && false then n else 0) ≡ 0
        nothing true n = refl
        nothing false n = refl

    -- by what is above in it
    module _ (held : List Holding) (are : AreAbove t code held) where
      -- a finding by its substance, and whether it has this number
      numbered : ℕ → List ℕ → Bool
      numbered n substance = (node * 4294967296 + place_of names substance) == n

      marks_numbered : (n : ℕ) (list : List Holding) → has (mark_numbers (map (holding_mark names node) list)) n ≡ list_any (λ holding. numbered n holding.substance) list
      unfolding numbered
      marks_numbered n [] = refl
      marks_numbered n (holding ∷ list) = rw (marks_numbered n list) refl

      findings_numbered : (n : ℕ) → has_numbered (finding_number labels names) (own_findings t code) n ≡ list_any (λ candidate. is_above t code candidate.substance && numbered n candidate.substance) t.candidates
      unfolding numbered
      findings_numbered n =
          ap (λ found. has_numbered (finding_number labels names) found n) article_findings
          ∙ any-map (λ finding. finding_number labels names finding == n) (λ candidate. above code candidate.substance) (filter (λ candidate. is_above t code candidate.substance) t.candidates)
          ∙ any-filter (λ candidate. is_above t code candidate.substance) (λ candidate. (place_of labels code * 4294967296 + place_of names candidate.substance) == n) t.candidates
          ∙ ap (λ p. list_any (λ candidate. is_above t code candidate.substance && ((p * 4294967296 + place_of names candidate.substance) == n)) t.candidates) place

      -- what is above is a candidate, and a candidate that is above is among them
      from_held : (n : ℕ) (holding : Holding) → is_above t code holding.substance ≡ true → numbered n holding.substance ≡ true → (o : Option CandidateRow) → candidate_row t holding.substance ≡ o → is_some o ≡ true →
          list_any (λ candidate. is_above t code candidate.substance && numbered n candidate.substance) t.candidates ≡ true
      from_held n holding high is None e kept = absurd (false≢true kept)
      from_held n holding high is (Some candidate) e kept =
          let same : candidate.substance ≡ holding.substance = (found_each (λ row. row.substance) (λ row. Unit {0}) holding.substance t.candidates candidate (each (λ row. Unit {0}) (λ row. tt) t.candidates) e).1 in
          found_any (λ row. row.substance) (λ row. is_above t code row.substance && numbered n row.substance) holding.substance t.candidates candidate e
          (ap (λ c. is_above t code c && numbered n c) same ∙ and_from (is_above t code holding.substance) (numbered n holding.substance) high is)

      from_candidate : (n : ℕ) (candidate : CandidateRow) → numbered n candidate.substance ≡ true → (o : Option Holding) → row_of (λ holding. holding.substance) code_cmp candidate.substance held ≡ o → is_some o ≡ true →
          list_any (λ holding. numbered n holding.substance) held ≡ true
      from_candidate n candidate is None e kept = absurd (false≢true kept)
      from_candidate n candidate is (Some holding) e kept =
          let same : holding.substance ≡ candidate.substance = (found_each (λ row. row.substance) (λ row. Unit {0}) candidate.substance held holding (each (λ row. Unit {0}) (λ row. tt) held) e).1 in
          found_any (λ row. row.substance) (λ row. numbered n row.substance) candidate.substance held holding e (ap (numbered n) same ∙ is)

      candidate_of : (substance : List ℕ) → is_above t code substance ≡ true → is_candidate t substance ≡ true
      unfolding is_above
      candidate_of substance e = (and_parts (is_candidate t substance) (nat_lt (mass t code) (1000 * content t code substance)) e).0

      same_numbers : (n : ℕ) → has (mark_numbers (map (holding_mark names node) held)) n ≡ has_numbered (finding_number labels names) (own_findings t code) n
      same_numbers n =
          marks_numbered n held
          ∙ both_same (list_any (λ holding. numbered n holding.substance) held) (list_any (λ candidate. is_above t code candidate.substance && numbered n candidate.substance) t.candidates)
          (any_gives (λ holding. numbered n holding.substance) held
          (each_map (λ holding. (is_above t code holding.substance ≡ true) × (holding.amount ≡ content t code holding.substance))
          (λ holding. numbered n holding.substance ≡ true → list_any (λ candidate. is_above t code candidate.substance && numbered n candidate.substance) t.candidates ≡ true)
          (λ holding h is. from_held n holding h.0 is (candidate_row t holding.substance) refl (candidate_of holding.substance h.0)) held are.each))
          (any_gives (λ candidate. is_above t code candidate.substance && numbered n candidate.substance) t.candidates
          (each (λ candidate. (is_above t code candidate.substance && numbered n candidate.substance) ≡ true → list_any (λ holding. numbered n holding.substance) held ≡ true)
          (λ candidate both.
          let parts = and_parts (is_above t code candidate.substance) (numbered n candidate.substance) both in
          from_candidate n candidate parts.1 (row_of (λ holding. holding.substance) code_cmp candidate.substance held) refl (are.all candidate.substance parts.0)) t.candidates))
          ∙ sym (findings_numbered n)

      load_found : (substance : List ℕ) (o : Option Holding) → row_of (λ holding. holding.substance) code_cmp substance held ≡ o → (b : Bool) → is_above t code substance ≡ b → (b ≡ true → is_some o ≡ true) →
          option_map_or (λ holding. holding.amount) o 0 ≡ (if b then content t code substance else 0)
      load_found substance None e true high there = absurd (false≢true (there refl))
      load_found substance None e false low there = refl
      load_found substance (Some holding) e b is there =
          let found = found_each (λ row. row.substance) (λ row. (is_above t code row.substance ≡ true) × (row.amount ≡ content t code row.substance)) substance held holding are.each e in
          let high : b ≡ true = sym is ∙ ap (is_above t code) (sym found.1) ∙ found.0.0 in
          found.0.1 ∙ ap (content t code) found.1 ∙ ap (λ c. if c then content t code substance else 0) (sym high)

      load_is : (substance : List ℕ) → amount_held held substance ≡ own_load t substance code
      load_is substance =
          load_found substance (row_of (λ holding. holding.substance) code_cmp substance held) refl (is_above t code substance) refl (are.all substance)
          ∙ ap (λ b. if b && is_above t code substance then content t code substance else 0) (sym article)

      pub article_own : AreNames t names → (own : OwnValues) → own.weight ≡ 0 →
          own.marks ≡ map (holding_mark names node) held →
          ((n : ℕ) → amount_of own.loads n ≡ (if nat_lt n (length names) then amount_held held (label_of names n) else 0)) →
          IsOwnOf t (finding_number labels names) (label_of names) code own
      article_own named own weight marks loads = record {
        weight = weight ∙ ap (λ o. option_map_or (λ row. row.mass) o 0) (sym (none_of (material_row t code) material));
        marks = λ n. ap (λ ms. has (mark_numbers ms) n) marks ∙ same_numbers n;
        loads = λ n.
            elim (cases_lt n (length names)) [
              | inl low ↦ loads n ∙ ap (λ b. if b then amount_held held (label_of names n) else 0) (lt-ltb n (length names) low) ∙ load_is (label_of names n)
              | inr past ↦ loads n ∙ ap (λ b. if b then amount_held held (label_of names n) else 0) (le-ltb n (length names) past) ∙ sym (no_load named n past)
            ];
      }

-- each substance that is above has a name
pub names_of : (t : Lists) (code : List ℕ) (names : List (List ℕ)) → AreNames t names → (held : List Holding) → AreAbove t code held → AllByRecursion (λ holding. list_any (λ listed. same_code listed holding.substance) names ≡ true) held
unfolding is_above
names_of t code names named held are =
    each_map (λ holding. (is_above t code holding.substance ≡ true) × (holding.amount ≡ content t code holding.substance)) (λ holding. list_any (λ listed. same_code listed holding.substance) names ≡ true)
    (λ holding h. named.named holding.substance (and_parts (is_candidate t holding.substance) (nat_lt (mass t code) (1000 * content t code holding.substance)) h.0).0) held are.each
