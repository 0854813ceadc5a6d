-- Findings by number.
use Rattle.std.proofs.Common.{◌≡◌, ℕ, suc, ◌+◌, ◌<◌, ◌≤◌, Bool, true, false, cond, ◌==◌, ◌||◌, List, [], ◌∷◌, ◌++◌, length, map, sum_by, count_by, refl, sym, ap, ◌∙◌, subst, inl, inr, arith}
use Rattle.std.specs.Prelude.{if◌then◌else◌, slice_index_or}
use Rattle.std.specs.List.{AllByRecursion, flat_map, list_any, range_with_len}
use Rattle.std.proofs.lemmas.Bool.{and_from, and_parts, both_ways, cases_Bool, eq-eqb, eqb-true, false_from_ne_true, ne_eqb, true≢false}
use Rattle.std.proofs.lemmas.List.{length-map}
use Rattle.std.proofs.lemmas.List.Sums.{sum_by-append, sum_by-cons}
use Rattle.desk_text.specs.Code.{code_cmp, same_code}
use Rattle.desk_text.proofs.CodeLemmas.{same_code_itself}
use Rattle.desk_law.specs.Rule.{rule_number, same_rule}
use Rattle.desk_model.specs.declared.rows.line.LineRow.{LineRow}
use Rattle.desk_model.specs.Lists.{IsOrdered, Lists, is_kept, is_material, is_part, material_row}
use Rattle.desk_model.proofs.Anys.{any-append, any-flat_map, count-map}
use Rattle.desk_model.proofs.Elements.{any_gives, any_map, any_of_all, any_same, count_le, each, each_both, each_filter, each_map, none_kept, sum_same, sum_zero}
use Rattle.desk_model.proofs.Kept.{code_cmp_total, each_kept, same_code-true}
use Rattle.desk_model.proofs.Times.{times, times_append, times_by_code}
use Rattle.desk_findings.specs.Articles.{is_article}
use Rattle.desk_findings.specs.Bill.{IsBill, are_codes_apart}
use Rattle.desk_findings.specs.Findings.{Finding, above, finding_count, findings, findings_at, is_in, over, own_findings, same_finding}
use Rattle.desk_findings.specs.Reaches.{is_or_reaches, lines_of}
use Rattle.desk_findings.proofs.Bill.{HasChildren, bill_induction, has_parents, lines_of-none}
use Rattle.desk_findings.proofs.Children.{not_part, parents_kept}
use Rattle.desk_findings.proofs.FindingRolls.{by_lines}
use Rattle.desk_findings.proofs.FindingsOnce.{of_none, of_part, once, same_finding-true}
use Rattle.desk_findings.specs.Bill.{IsRight}
use Rattle.desk_findings.specs.Holders.{holder}
use Rattle.desk_findings.specs.Numbering.{AreLabels, AreNumbered, has_number, has_numbered, is_found}
use Rattle.desk_findings.specs.OwnValues.{findings_of_lines}
use Rattle.desk_findings.proofs.Counted.{equally_long, equally_often, none_counted, some_counted, sum_by_counts, sum_by_place}
use Rattle.desk_findings.proofs.Holders.{held}
use Rattle.desk_findings.proofs.OwnValues.{of_article}

pub same_itself : (finding : Finding) → same_finding finding finding ≡ true
same_itself (over m rule) = and_from (same_code m m) (same_rule rule rule) (same_code_itself m) (eq-eqb (rule_number rule) (rule_number rule) refl)
same_itself (above a s) = and_from (same_code a a) (same_code s s) (same_code_itself a) (same_code_itself s)

-- a test passes in every list that has the findings
any_by_members : (xs ys : List Finding) → ((finding : Finding) → is_in finding xs ≡ true → is_in finding ys ≡ true) → (p : Finding → Bool) → list_any p xs ≡ true → list_any p ys ≡ true
any_by_members xs ys into p e =
    any_gives p xs {G = list_any p ys ≡ true}
    (each_map (λ x. (q : Finding → Bool) → q x ≡ true → list_any q xs ≡ true) (λ x. p x ≡ true → list_any p ys ≡ true)
    (λ x f passes.
    any_map (same_finding x) p ys
    (each (λ y. same_finding x y ≡ true → p y ≡ true) (λ y same. subst (λ z. p z ≡ true) (same_finding-true x y same) passes) ys) (into x (f (same_finding x) (same_itself x))))
    xs (any_of_all xs)) e

any_same_members : (xs ys : List Finding) → ((finding : Finding) → is_in finding xs ≡ is_in finding ys) → (p : Finding → Bool) → list_any p xs ≡ list_any p ys
any_same_members xs ys same p =
    elim (cases_Bool (list_any p xs)) [
      | inl some ↦ some ∙ sym (any_by_members xs ys (λ finding here. sym (same finding) ∙ here) p some)
      | inr none ↦ none ∙ sym (false_from_ne_true (list_any p ys) (λ some. both_ways (list_any p xs) none (any_by_members ys xs (λ finding here. same finding ∙ here) p some)))
    ]

-- a test of some finding, by the lines of a code
pub any_by_lines : (t : Lists) → IsOrdered t → IsBill t → (p : Finding → Bool) (code : List ℕ) → list_any p (findings_at t code) ≡ (list_any p (own_findings t code) || list_any (λ line. list_any p (findings_at t line.child)) (lines_of t.lines code))
any_by_lines t ordered bill p code =
    any_same_members (findings_at t code) (own_findings t code ++ flat_map (λ line. findings_at t line.child) (lines_of t.lines code))
    (λ finding. by_lines t ordered (has_parents t bill.parents) finding code ∙ sym (joined (same_finding finding))) p
    ∙ joined p
  where
    joined : (q : Finding → Bool) → list_any q (own_findings t code ++ flat_map (λ line. findings_at t line.child) (lines_of t.lines code)) ≡ (list_any q (own_findings t code) || list_any (λ line. list_any q (findings_at t line.child)) (lines_of t.lines code))
    joined q =
        any-append q (own_findings t code) (flat_map (λ line. findings_at t line.child) (lines_of t.lines code))
        ∙ ap (λ b. list_any q (own_findings t code) || b) (any-flat_map q (λ line. findings_at t line.child) (lines_of t.lines code))

pub numbers_same : (t : Lists) → IsOrdered t → IsBill t → HasChildren t → (number : Finding → ℕ) (stored : List ℕ → List ℕ) →
    ((code : List ℕ) → is_kept t code ≡ true → (n : ℕ) → has_number (stored code) n ≡ (has_numbered number (own_findings t code) n || list_any (λ line. has_number (stored line.child) n) (lines_of t.lines code))) →
    (code : List ℕ) → is_kept t code ≡ true → (n : ℕ) → has_number (stored code) n ≡ has_numbered number (findings_at t code) n
numbers_same t ordered bill children number stored right =
    bill_induction t (has_parents t bill.parents) bill.acyclic (λ code. is_kept t code ≡ true → (n : ℕ) → has_number (stored code) n ≡ has_numbered number (findings_at t code) n)
    (λ code below kept n.
    right code kept n
    ∙ ap (λ b. has_numbered number (own_findings t code) n || b)
    (any_same (λ line. has_number (stored line.child) n) (λ line. has_numbered number (findings_at t line.child) n) (lines_of t.lines code)
    (each_map (λ line. (is_kept t line.child ≡ true → (m : ℕ) → has_number (stored line.child) m ≡ has_numbered number (findings_at t line.child) m) × ((is_kept t line.child ≡ true) × (same_code line.parent code ≡ true))) (λ line. has_number (stored line.child) n ≡ has_numbered number (findings_at t line.child) n)
    (λ line h. h.0 h.1.0 n) (lines_of t.lines code)
    (each_both (λ line. is_kept t line.child ≡ true → (m : ℕ) → has_number (stored line.child) m ≡ has_numbered number (findings_at t line.child) m) (λ line. (is_kept t line.child ≡ true) × (same_code line.parent code ≡ true)) (lines_of t.lines code) below
    (each_filter (λ line. is_kept t line.child ≡ true) (λ line. same_code line.parent code) t.lines children))))
    ∙ sym (any_by_lines t ordered bill (λ finding. number finding == n) code))

at_most_one : (b : Bool) → cond b 1 0 ≤ 1
at_most_one true = omega arith
at_most_one false = omega arith

-- each finding at a code is one of the tables'
pub each_found : (t : Lists) → IsOrdered t → IsBill t → (code : List ℕ) → AllByRecursion (λ finding. is_found t finding ≡ true) (findings_at t code)
each_found t ordered bill code =
    each_map (λ finding. (q : Finding → Bool) → q finding ≡ true → list_any q (findings_at t code) ≡ true) (λ finding. is_found t finding ≡ true)
    (λ finding f. (and_parts (is_or_reaches t code (holder finding)) (is_found t finding) (sym (held t ordered bill finding code) ∙ f (same_finding finding) (same_itself finding))).1)
    (findings_at t code) (any_of_all (findings_at t code))

-- a number stands once at most among the findings at a code
numbered_once : (t : Lists) → IsOrdered t → IsBill t → are_codes_apart t ≡ true → (number : Finding → ℕ) → AreNumbered t number → (code : List ℕ) (n : ℕ) → count_by (λ finding. number finding == n) (findings_at t code) ≤ 1
numbered_once t ordered bill apart number numbered code n =
    elim (cases_Bool (list_any (λ finding. number finding == n) (findings_at t code))) [
      | inl some ↦
          any_gives (λ finding. number finding == n) (findings_at t code) {G = count_by (λ finding. number finding == n) (findings_at t code) ≤ 1}
          (each_map (λ x. is_found t x ≡ true) (λ x. (number x == n) ≡ true → count_by (λ finding. number finding == n) (findings_at t code) ≤ 1) one (findings_at t code) (each_found t ordered bill code)) some
      | inr none ↦ omega (arith, none_counted (λ finding. number finding == n) (findings_at t code) none)
    ]
  where
    one : (x : Finding) → is_found t x ≡ true → (number x == n) ≡ true → count_by (λ finding. number finding == n) (findings_at t code) ≤ 1
    one x there e =
        let fewer =
        count_le (λ finding. number finding == n) (same_finding x) (findings_at t code)
        (each_map (λ y. is_found t y ≡ true) (λ y. (number y == n) ≡ true → same_finding x y ≡ true)
        (λ y also f. subst (λ z. same_finding x z ≡ true) (numbered x y there also (eqb-true (number x) n e ∙ sym (eqb-true (number y) n f))) (same_itself x)) (findings_at t code) (each_found t ordered bill code)) in
        omega (arith, fewer, once t ordered (has_parents t bill.parents) apart code x, at_most_one (is_in x (findings_at t code)))

pub as_many : (t : Lists) → IsOrdered t → IsBill t → are_codes_apart t ≡ true → (number : Finding → ℕ) → AreNumbered t number → (code : List ℕ) (numbers : List ℕ) →
    ((n : ℕ) → count_by (λ other. other == n) numbers ≤ 1) → ((n : ℕ) → has_number numbers n ≡ has_numbered number (findings_at t code) n) →
    length numbers ≡ length (findings_at t code)
as_many t ordered bill apart number numbered code numbers single same =
    equally_long (λ a b. b == a) (λ n. eq-eqb n n refl) (λ a b e. sym (eqb-true b a e)) numbers (map number (findings_at t code))
    (λ n.
    let counted = count-map (λ other. other == n) number (findings_at t code) in
    let alike : count_by (λ other. other == n) numbers ≡ count_by (λ finding. number finding == n) (findings_at t code) =
    equally_often (λ other. other == n) (λ finding. number finding == n) numbers (findings_at t code) (single n) (numbered_once t ordered bill apart number numbered code n) (same n) in
    alike ∙ sym counted)
    ∙ length-map (findings_at t code) number

module _ (t : Lists) (ordered : IsOrdered t) (right : IsRight t) where
  bill : IsBill t
  bill = record { parents = parents_kept t right.children; acyclic = right.acyclic }

  -- a part without lines has nothing of its own
  bare_own : (code : List ℕ) → is_part t code ≡ true → lines_of t.lines code ≡ [] → own_findings t code ≡ []
  bare_own code kept bare =
      elim (cases_Bool (is_article t code)) [
        | inl article ↦
            (of_article t right code article).2
            ∙ ap (λ lines. findings_of_lines (material_row t) lines t.candidates code) bare
            ∙ ap (map (λ candidate. above code candidate.substance)) (none_kept (λ candidate. false) t.candidates (each (λ candidate. false ≡ false) (λ candidate. refl) t.candidates))
        | inr other ↦ of_none t code (false_from_ne_true (is_material t code) (λ material. both_ways (is_part t code) (not_part t right.apart code material) kept)) other
      ]

  none_in : {X : Type 0} (xs : List X) → list_any (λ x. true) xs ≡ false → length xs ≡ 0
  none_in [] e = refl
  none_in (x ∷ xs) e = absurd (true≢false e)

  bare_found : (code : List ℕ) → is_part t code ≡ true → lines_of t.lines code ≡ [] → length (findings t code) ≡ 0
  bare_found code kept bare =
      ap length (sym (of_part t right.apart code kept))
      ∙ none_in (findings_at t code)
      (any_by_lines t ordered bill (λ finding. true) code
      ∙ ap (λ found. list_any (λ finding. true) found || list_any (λ line. list_any (λ finding. true) (findings_at t line.child)) (lines_of t.lines code)) (bare_own code kept bare)
      ∙ ap (λ lines. list_any (λ line. list_any (λ finding. true) (findings_at t line.child)) lines) bare)

  -- what counts at a code
  counts : List ℕ → ℕ
  counts code = if length (lines_of t.lines code) == 0 then 0 else length (findings_at t code)

  counts-part : (code : List ℕ) → is_part t code ≡ true → counts code ≡ length (findings t code)
  unfolding counts
  counts-part code kept = by_list (lines_of t.lines code) refl
    where
      by_list : (lines : List LineRow) → lines_of t.lines code ≡ lines → (if length lines == 0 then 0 else length (findings_at t code)) ≡ length (findings t code)
      by_list [] e = sym (bare_found code kept e)
      by_list (line ∷ lines) e = ap (λ b. if b then 0 else length (findings_at t code)) (ne_eqb (suc (length lines)) 0 (λ z. absurd (omega (arith, z)))) ∙ ap length (of_part t right.apart code kept)

  counts-material : (code : List ℕ) → is_material t code ≡ true → counts code ≡ 0
  unfolding counts
  counts-material code kept = rw (lines_of-none t (has_parents t bill.parents) code (not_part t right.apart code kept)) refl

  sum_by-map : {X Y : Type 0} (f : Y → ℕ) (g : X → Y) (xs : List X) → sum_by f (map g xs) ≡ sum_by (λ x. f (g x)) xs
  sum_by-map f g [] = refl
  sum_by-map f g (x ∷ xs) = omega (arith, sum_by-cons f (g x) (map g xs), sum_by-cons (λ y. f (g y)) x xs, sum_by-map f g xs)

  one_of : (a b : Bool) → (a ≡ true → b ≡ false) → cond a 1 0 + cond b 1 0 ≡ cond (a || b) 1 0
  one_of true b f = rw (f refl) refl
  one_of false b f = omega arith

  pub codes : List (List ℕ)
  codes = map (λ row. row.code) t.materials ++ map (λ row. row.code) t.parts

  pub times_codes : (code : List ℕ) → times code codes ≡ cond (is_kept t code) 1 0
  unfolding codes
  times_codes code =
      times_append code (map (λ row. row.code) t.materials) (map (λ row. row.code) t.parts)
      ∙ ap (λ n. n + times code (map (λ row. row.code) t.parts)) (times_by_code (λ row. row.code) code t.materials ordered.materials)
      ∙ ap (λ n. cond (is_material t code) 1 0 + n) (times_by_code (λ row. row.code) code t.parts ordered.parts)
      ∙ one_of (is_material t code) (is_part t code) (not_part t right.apart code)

  length_both : {Y : Type 0} (xs ys : List Y) → length (xs ++ ys) ≡ length xs + length ys
  length_both [] ys = omega arith
  length_both (x ∷ xs) ys = omega (arith, length_both xs ys)

  -- as many labels as materials and parts
  pub label_count : (labels : List (List ℕ)) → AreLabels t labels → length labels ≡ length t.materials + length t.parts
  unfolding codes
  label_count labels are =
      omega (
        arith,
        equally_long (λ a b. same_code b a) same_code_itself (λ a b e. sym (same_code-true b a e)) labels codes (λ code. are code ∙ sym (times_codes code)),
        length_both (map (λ row. row.code) t.materials) (map (λ row. row.code) t.parts),
        length-map t.materials (λ row. row.code),
        length-map t.parts (λ row. row.code),
      )

  all_counts : sum_by counts codes ≡ finding_count t
  unfolding finding_count codes
  all_counts =
      let materials : sum_by (λ material. counts material.code) t.materials ≡ 0 =
      sum_zero (λ material. counts material.code) t.materials
      (each_map (λ material. is_material t material.code ≡ true) (λ material. counts material.code ≡ 0) (λ material kept. counts-material material.code kept) t.materials (each_kept (λ row. row.code) code_cmp code_cmp_total t.materials)) in
      let parts : sum_by (λ part. counts part.code) t.parts ≡ sum_by (λ part. length (findings t part.code)) t.parts =
      sum_same (λ part. counts part.code) (λ part. length (findings t part.code)) t.parts
      (each_map (λ part. is_part t part.code ≡ true) (λ part. counts part.code ≡ length (findings t part.code)) (λ part kept. counts-part part.code kept) t.parts (each_kept (λ row. row.code) code_cmp code_cmp_total t.parts)) in
      omega (
        arith,
        sum_by-append counts (map (λ row. row.code) t.materials) (map (λ row. row.code) t.parts),
        sum_by-map counts (λ row. row.code) t.materials,
        sum_by-map counts (λ row. row.code) t.parts,
        materials,
        parts,
      )

  pub counted : (labels : List (List ℕ)) → AreLabels t labels → (lines sizes : ℕ → ℕ) →
      ((node : ℕ) → node < length labels → lines node ≡ length (lines_of t.lines (slice_index_or labels node []))) →
      ((node : ℕ) → node < length labels → sizes node ≡ length (findings_at t (slice_index_or labels node []))) →
      sum_by (λ node. if lines node == 0 then 0 else sizes node) (range_with_len 0 (length labels)) ≡ finding_count t
  unfolding counts
  counted labels are lines sizes l s =
      sum_by_place counts (λ node. if lines node == 0 then 0 else sizes node) [] labels 0
      (λ i h.
      let same : 0 + i ≡ i = omega arith in
      ap (λ node. if lines node == 0 then 0 else sizes node) same
      ∙ ap (λ n. if n == 0 then 0 else sizes i) (l i h)
      ∙ ap (λ n. if length (lines_of t.lines (slice_index_or labels i [])) == 0 then 0 else n) (s i h))
      ∙ sum_by_counts (λ a b. same_code b a) same_code_itself (λ a b e. sym (same_code-true b a e)) counts labels codes (λ code. are code ∙ sym (times_codes code))
      ∙ all_counts

-- a test that passes somewhere passes at a place
place_of : {X : Type 0} (p : X → Bool) (d : X) (xs : List X) → list_any p xs ≡ true → (i : ℕ) × (i < length xs) × (p (slice_index_or xs i d) ≡ true)
place_of p d [] e = absurd (Rattle.std.proofs.lemmas.Bool.false≢true e)
place_of p d (x ∷ xs) e =
    elim (Rattle.std.proofs.lemmas.Bool.or_cases (p x) (list_any p xs) e) [
      | inl here ↦ (0, omega arith, here)
      | inr there ↦ let found = place_of p d xs there in (suc found.0, omega (arith, found.1), found.2)
    ]

-- a kept code has a place among the labels, and a label is kept
pub label_place : (t : Lists) (labels : List (List ℕ)) → AreLabels t labels → (code : List ℕ) → is_kept t code ≡ true → (node : ℕ) × (node < length labels) × (slice_index_or labels node [] ≡ code)
label_place t labels are code kept =
    let found = place_of (λ listed. same_code listed code) [] labels some in
    (found.0, found.1, same_code-true (slice_index_or labels found.0 []) code found.2)
  where
    some : list_any (λ listed. same_code listed code) labels ≡ true
    some =
        elim (cases_Bool (list_any (λ listed. same_code listed code) labels)) [
          | inl there ↦ there
          | inr none ↦
              let one : count_by (λ listed. same_code listed code) labels ≡ 1 = are code ∙ ap (λ b. cond b 1 0) kept in
              absurd (omega (arith, one, none_counted (λ listed. same_code listed code) labels none))
        ]

pub kept_label : (t : Lists) (labels : List (List ℕ)) → AreLabels t labels → (node : ℕ) → node < length labels → is_kept t (slice_index_or labels node []) ≡ true
kept_label t labels are node inside =
    elim (cases_Bool (is_kept t (slice_index_or labels node []))) [
      | inl kept ↦ kept
      | inr absent ↦
          let none : count_by (λ listed. same_code listed (slice_index_or labels node [])) labels ≡ 0 = are (slice_index_or labels node []) ∙ ap (λ b. cond b 1 0) absent in
          let some = some_counted (λ listed. same_code listed (slice_index_or labels node [])) labels (Rattle.std.proofs.lemmas.List.Folds.list_any_at (λ listed. same_code listed (slice_index_or labels node [])) labels node [] inside (same_code_itself (slice_index_or labels node []))) in
          absurd (omega (arith, none, some))
    ]
