-- Each finding stands once where it is found, and lists with the same findings, each once, are equally long.
use Rattle.std.proofs.Common.{◌≡◌, ℕ, ◌≤◌, Bool, true, false, cond, ◌&&◌, List, [], ◌∷◌, ◌++◌, filter, map, sum_by, count_by, Option, Some, None, is_some, refl, sym, ap, ◌∙◌, subst, arith}
use Rattle.std.specs.Prelude.{if◌then◌else◌}
use Rattle.std.specs.List.{flat_map}
use Rattle.std.specs.Option.{option_map_or}
use Rattle.std.proofs.lemmas.Bool.{and_parts, and_right, both_ways, false_from_ne_true, true≢false}
use Rattle.std.proofs.lemmas.List.Sums.{sum_by-cons}
use Rattle.desk_text.specs.Code.{code_cmp, same_code}
use Rattle.desk_rows.specs.Rows.{IsByKey, row_of}
use Rattle.desk_law.specs.declared.rule.Rule.{Rule}
use Rattle.desk_law.specs.Rule.{restricting_rules, same_rule}
use Rattle.desk_law.proofs.Rules.{rule_once, same_rule-true}
use Rattle.desk_model.specs.declared.rows.material.MaterialRow.{MaterialRow}
use Rattle.desk_model.specs.declared.rows.part.PartRow.{PartRow}
use Rattle.desk_model.specs.Lists.{IsOrdered, Lists, is_material, is_part, material_row, part_row}
use Rattle.desk_model.proofs.Anys.{count-append, count-flat_map, count-map, count-once, sum-filter-le}
use Rattle.desk_model.proofs.Elements.{count_by-cons, each, each_map, none_kept, sum_le, sum_zero}
use Rattle.desk_model.proofs.Kept.{code_cmp_total, same_code-true}
use Rattle.desk_model.proofs.Times.{times, times_by_code}
use Rattle.desk_findings.specs.Articles.{articles_in, is_article, is_article_sort, materials_in}
use Rattle.desk_findings.specs.Bill.{are_codes_apart}
use Rattle.desk_findings.specs.Findings.{Finding, above, findings, findings_at, findings_of_article, findings_on, is_in, over, own_findings, rules_over, same_finding}
use Rattle.desk_findings.specs.Reaches.{is_or_reaches, reaches}
use Rattle.desk_findings.specs.Share.{is_over_limit}
use Rattle.desk_findings.proofs.Bill.{HasParents, lines_of-none, reaches-step}
use Rattle.desk_findings.proofs.Children.{not_part}
use Rattle.desk_findings.proofs.FindingRolls.{same_code_back}

-- a count is at most that of a wider test
count-le : {X : Type 0} (p q : X → Bool) (xs : List X) → ((x : X) → p x ≡ true → q x ≡ true) → count_by p xs ≤ count_by q xs
count-le p q xs f = Rattle.desk_model.proofs.Elements.count_le p q xs (each (λ x. p x ≡ true → q x ≡ true) f xs)

-- two findings that are one are equal
pub same_finding-true : (a b : Finding) → same_finding a b ≡ true → a ≡ b
same_finding-true (over m r) (over n s) e =
    let parts = and_parts (same_code m n) (same_rule r s) e in
    ap (λ c. over c r) (same_code-true m n parts.0) ∙ ap (over n) (same_rule-true r s parts.1)
same_finding-true (over m r) (above b u) e = absurd (true≢false (sym e))
same_finding-true (above a s) (over n r) e = absurd (true≢false (sym e))
same_finding-true (above a s) (above b u) e =
    let parts = and_parts (same_code a b) (same_code s u) e in
    ap (λ c. above c s) (same_code-true a b parts.0) ∙ ap (above b) (same_code-true s u parts.1)

filter_count : {X : Type 0} (test p : X → Bool) (xs : List X) → count_by p (filter test xs) ≤ count_by p xs
filter_count test p [] = omega arith
filter_count test p (x ∷ xs) =
    elim (test x) as (λ b. count_by p (cond b (x ∷ filter test xs) (filter test xs)) ≤ count_by p (x ∷ xs)) [
      | true ↦ omega (arith, count_by-cons p x xs, count_by-cons p x (filter test xs), filter_count test p xs)
      | false ↦ omega (arith, count_by-cons p x xs, filter_count test p xs)
    ]

count_none : {X : Type 0} (p : X → Bool) (xs : List X) → ((x : X) → p x ≡ false) → count_by p xs ≡ 0
count_none p [] f = refl
count_none p (x ∷ xs) f =
    let first : ◌≡◌ {A = ℕ} (cond (p x) 1 0) 0 = rw (f x) refl in
    omega (arith, count_by-cons p x xs, first, count_none p xs f)

-- codes of rows by code, one at most
code_once : {R : Type 0} (key : R → List ℕ) (code : List ℕ) (rows : List R) → IsByKey key code_cmp rows → count_by (λ row. same_code code (key row)) rows ≤ 1
code_once {R} key code rows h =
    let counted : count_by (λ row. same_code (key row) code) rows ≡ times code (map key rows) = sym (count-map (λ listed. same_code listed code) key rows) in
    let turned = count-le (λ row. same_code code (key row)) (λ row. same_code (key row) code) rows (λ row e. same_code_back (key row) code ∙ e) in
    omega (arith, counted, turned, times_by_code key code rows h, at_most (is_some (row_of key code_cmp code rows)))
  where
    at_most : (b : Bool) → cond b 1 0 ≤ 1
    at_most true = omega arith
    at_most false = omega arith

count_is : {X : Type 0} (p : X → Bool) (xs : List X) → sum_by (λ x. cond (p x) 1 0) xs ≡ count_by p xs
count_is p [] = refl
count_is p (x ∷ xs) = omega (arith, sum_by-cons (λ y. cond (p y) 1 0) x xs, count_by-cons p x xs, count_is p xs)

-- a sum over rows of which one has the code
sum_code : {R : Type 0} (key : R → List ℕ) (code : List ℕ) (f : R → ℕ) (rows : List R) → IsByKey key code_cmp rows → ((row : R) → f row ≤ cond (same_code code (key row)) 1 0) → sum_by f rows ≤ 1
sum_code key code f rows h bound =
    let below = sum_le f (λ row. cond (same_code code (key row)) 1 0) rows (each (λ row. f row ≤ cond (same_code code (key row)) 1 0) bound rows) in
    omega (arith, below, count_is (λ row. same_code code (key row)) rows, code_once key code rows h)

module _ (t : Lists) (ordered : IsOrdered t) where
  -- of a material's findings each is one, and none is another material's
  over_once : (m : List ℕ) (rule : Rule) (material : MaterialRow) → count_by (same_finding (over m rule)) (findings_on t material) ≤ cond (same_code m material.code) 1 0
  over_once m rule material =
      let counted = count-map (same_finding (over m rule)) (over material.code) (rules_over t material) in
      by_code (same_code m material.code) refl counted
    where
      by_code : (b : Bool) → same_code m material.code ≡ b → count_by (same_finding (over m rule)) (map (over material.code) (rules_over t material)) ≡ count_by (λ r. same_code m material.code && same_rule rule r) (rules_over t material) → count_by (same_finding (over m rule)) (map (over material.code) (rules_over t material)) ≤ cond b 1 0
      by_code true e counted =
          let one = filter_count (λ r. is_over_limit t r material) (same_rule rule) restricting_rules in
          let narrower = count-le (λ r. same_code m material.code && same_rule rule r) (same_rule rule) (rules_over t material) (λ r h. (and_parts (same_code m material.code) (same_rule rule r) h).1) in
          omega (arith, counted, narrower, one, rule_once rule)
      by_code false e counted = omega (arith, counted, count_none (λ r. same_code m material.code && same_rule rule r) (rules_over t material) (λ r. ap (λ b. b && same_rule rule r) e))

  above_not_over : (a s : List ℕ) (material : MaterialRow) → count_by (same_finding (above a s)) (findings_on t material) ≡ 0
  above_not_over a s material = count-map (same_finding (above a s)) (over material.code) (rules_over t material) ∙ count_none (λ r. false) (rules_over t material) (λ r. refl)

  over_not_above : (m : List ℕ) (rule : Rule) (part : PartRow) → count_by (same_finding (over m rule)) (findings_of_article t part) ≡ 0
  over_not_above m rule part =
      count-map (same_finding (over m rule)) (λ candidate. above part.code candidate.substance) (filter (λ candidate. Rattle.desk_findings.specs.Above.is_above t part.code candidate.substance) t.candidates)
      ∙ count_none (λ candidate. false) (filter (λ candidate. Rattle.desk_findings.specs.Above.is_above t part.code candidate.substance) t.candidates) (λ candidate. refl)

  above_once : (a s : List ℕ) (part : PartRow) → count_by (same_finding (above a s)) (findings_of_article t part) ≤ cond (same_code a part.code) 1 0
  above_once a s part =
      let listed = filter (λ candidate. Rattle.desk_findings.specs.Above.is_above t part.code candidate.substance) t.candidates in
      let counted = count-map (same_finding (above a s)) (λ candidate. above part.code candidate.substance) listed in
      by_code (same_code a part.code) refl counted
    where
      by_code : (b : Bool) → same_code a part.code ≡ b → count_by (same_finding (above a s)) (findings_of_article t part) ≡ count_by (λ candidate. same_code a part.code && same_code s candidate.substance) (filter (λ candidate. Rattle.desk_findings.specs.Above.is_above t part.code candidate.substance) t.candidates) → count_by (same_finding (above a s)) (findings_of_article t part) ≤ cond b 1 0
      by_code true e counted =
          let listed = filter (λ candidate. Rattle.desk_findings.specs.Above.is_above t part.code candidate.substance) t.candidates in
          let one = filter_count (λ candidate. Rattle.desk_findings.specs.Above.is_above t part.code candidate.substance) (λ candidate. same_code s candidate.substance) t.candidates in
          let narrower = count-le (λ candidate. same_code a part.code && same_code s candidate.substance) (λ candidate. same_code s candidate.substance) listed (λ candidate h. (and_parts (same_code a part.code) (same_code s candidate.substance) h).1) in
          omega (arith, counted, narrower, one, code_once (λ candidate. candidate.substance) s t.candidates ordered.candidates)
      by_code false e counted =
          omega (arith, counted, count_none (λ candidate. same_code a part.code && same_code s candidate.substance) (filter (λ candidate. Rattle.desk_findings.specs.Above.is_above t part.code candidate.substance) t.candidates) (λ candidate. ap (λ b. b && same_code s candidate.substance) e))

  materials_count : (m : List ℕ) (rule : Rule) (test : MaterialRow → Bool) → count_by (same_finding (over m rule)) (flat_map (findings_on t) (filter test t.materials)) ≤ 1
  materials_count m rule test =
      let counted = count-flat_map (same_finding (over m rule)) (findings_on t) (filter test t.materials) in
      let fewer = sum-filter-le test (λ material. count_by (same_finding (over m rule)) (findings_on t material)) t.materials in
      omega (arith, counted, fewer, sum_code (λ row. row.code) m (λ material. count_by (same_finding (over m rule)) (findings_on t material)) t.materials ordered.materials (over_once m rule))

  articles_count : (a s : List ℕ) (test : PartRow → Bool) → count_by (same_finding (above a s)) (flat_map (findings_of_article t) (filter test t.parts)) ≤ 1
  articles_count a s test =
      let counted = count-flat_map (same_finding (above a s)) (findings_of_article t) (filter test t.parts) in
      let fewer = sum-filter-le test (λ part. count_by (same_finding (above a s)) (findings_of_article t part)) t.parts in
      omega (arith, counted, fewer, sum_code (λ row. row.code) a (λ part. count_by (same_finding (above a s)) (findings_of_article t part)) t.parts ordered.parts (above_once a s))

  no_above : (a s : List ℕ) (materials : List MaterialRow) → count_by (same_finding (above a s)) (flat_map (findings_on t) materials) ≡ 0
  no_above a s materials =
      count-flat_map (same_finding (above a s)) (findings_on t) materials
      ∙ sum_zero (λ material. count_by (same_finding (above a s)) (findings_on t material)) materials (each (λ material. count_by (same_finding (above a s)) (findings_on t material) ≡ 0) (above_not_over a s) materials)

  no_over : (m : List ℕ) (rule : Rule) (parts : List PartRow) → count_by (same_finding (over m rule)) (flat_map (findings_of_article t) parts) ≡ 0
  no_over m rule parts =
      count-flat_map (same_finding (over m rule)) (findings_of_article t) parts
      ∙ sum_zero (λ part. count_by (same_finding (over m rule)) (findings_of_article t part)) parts (each (λ part. count_by (same_finding (over m rule)) (findings_of_article t part) ≡ 0) (over_not_above m rule) parts)

  -- a part's findings, each once at most
  findings_count : (code : List ℕ) (finding : Finding) → count_by (same_finding finding) (findings t code) ≤ 1
  unfolding findings
  findings_count code (over m rule) =
      omega (arith, count-append (same_finding (over m rule)) (flat_map (findings_on t) (materials_in t code)) (flat_map (findings_of_article t) (articles_in t code)), materials_count m rule (λ material. reaches t code material.code), no_over m rule (articles_in t code))
  findings_count code (above a s) =
      omega (arith, count-append (same_finding (above a s)) (flat_map (findings_on t) (materials_in t code)) (flat_map (findings_of_article t) (articles_in t code)), no_above a s (materials_in t code), articles_count a s (λ part. is_article_sort part.sort && is_or_reaches t code part.code))

  at_most_one : (b : Bool) → cond b 1 0 ≤ 1
  at_most_one true = omega arith
  at_most_one false = omega arith

  one_material : (finding : Finding) (material : MaterialRow) → count_by (same_finding finding) (findings_on t material) ≤ 1
  one_material (over m rule) material = omega (arith, over_once m rule material, at_most_one (same_code m material.code))
  one_material (above a s) material = omega (arith, above_not_over a s material)

  module _ (parents : HasParents t) (apart : are_codes_apart t ≡ true) where
    -- a material's code is no part's, and reaches nothing
    of_material : (code : List ℕ) → is_material t code ≡ true → findings t code ≡ []
    unfolding findings
    of_material code kept =
        let absent = not_part t apart code kept in
        let bare = lines_of-none t parents code absent in
        let none : (target : List ℕ) → reaches t code target ≡ false = λ target. reaches-step t parents target code ∙ rw bare refl in
        let materials = none_kept (λ material. reaches t code material.code) t.materials (each (λ material. reaches t code material.code ≡ false) (λ material. none material.code) t.materials) in
        let articles =
        none_kept (λ part. is_article_sort part.sort && is_or_reaches t code part.code) t.parts
        (each_map (λ part. is_part t part.code ≡ true) (λ part. (is_article_sort part.sort && is_or_reaches t code part.code) ≡ false)
        (λ part here. and_right (is_article_sort part.sort) (is_or_reaches t code part.code) (differs part.code here absent (none part.code))) t.parts
        (Rattle.desk_model.proofs.Kept.each_kept (λ row. row.code) code_cmp code_cmp_total t.parts)) in
        rw (materials, articles) refl
      where
        differs : (other : List ℕ) → is_part t other ≡ true → is_part t code ≡ false → reaches t code other ≡ false → is_or_reaches t code other ≡ false
        differs other here absent none =
            let not : same_code code other ≡ false = false_from_ne_true (same_code code other) (λ same. both_ways (is_part t code) absent (subst (λ c. is_part t c ≡ true) (sym (same_code-true code other same)) here)) in
            rw (not, none) refl

    at_count : (code : List ℕ) (finding : Finding) (o : Option MaterialRow) → material_row t code ≡ o → count_by (same_finding finding) (option_map_or (findings_on t) o [] ++ findings t code) ≤ 1
    at_count code finding None e = findings_count code finding
    at_count code finding (Some material) e =
        let none = of_material code (ap is_some e) in
        omega (arith, count-append (same_finding finding) (findings_on t material) (findings t code), ap (count_by (same_finding finding)) none, one_material finding material)

    pub once : (code : List ℕ) (finding : Finding) → count_by (same_finding finding) (findings_at t code) ≡ (if is_in finding (findings_at t code) then 1 else 0)
    unfolding findings_at
    once code finding = count-once (same_finding finding) (option_map_or (findings_on t) (material_row t code) [] ++ findings t code) (at_count code finding (material_row t code) refl)

-- a part's code is no material's
pub of_part : (t : Lists) → are_codes_apart t ≡ true → (code : List ℕ) → is_part t code ≡ true → findings_at t code ≡ findings t code
unfolding findings_at
of_part t apart code kept = by_row (material_row t code) refl
  where
    by_row : (o : Option MaterialRow) → material_row t code ≡ o → option_map_or (findings_on t) o [] ++ findings t code ≡ findings t code
    by_row None e = refl
    by_row (Some material) e = absurd (both_ways (is_part t code) (not_part t apart code (ap is_some e)) kept)

pub of_none : (t : Lists) (code : List ℕ) → is_material t code ≡ false → is_article t code ≡ false → own_findings t code ≡ []
unfolding own_findings
of_none t code material article = by_rows (material_row t code) (part_row t code) material article
  where
    by_rows : (o : Option MaterialRow) (p : Option PartRow) → is_some o ≡ false → option_map_or (λ part. is_article_sort part.sort) p false ≡ false → option_map_or (findings_on t) o [] ++ option_map_or (λ part. if is_article_sort part.sort then findings_of_article t part else []) p [] ≡ []
    by_rows (Some material) p e f = absurd (true≢false e)
    by_rows None None e f = refl
    by_rows None (Some part) e f = rw f refl
