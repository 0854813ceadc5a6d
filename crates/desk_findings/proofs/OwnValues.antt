-- What materials, articles and other codes have of their own.
use Rattle.std.proofs.Common.{◌≡◌, ℕ, ◌*◌, Bool, true, false, ◌&&◌, List, [], ◌∷◌, ◌++◌, filter, map, sum_by, Option, Some, None, is_some, refl, sym, ap, ◌∙◌, subst, arith}
use Rattle.std.specs.Prelude.{nat_lt, if◌then◌else◌}
use Rattle.std.specs.List.{AllByRecursion}
use Rattle.std.specs.Option.{option_map_or}
use Rattle.std.proofs.lemmas.Bool.{both_ways, false_from_ne_true, false≢true, true≢false}
use Rattle.desk_text.specs.Code.{code_cmp, same_code}
use Rattle.desk_model.specs.declared.rows.material.MaterialRow.{MaterialRow}
use Rattle.desk_model.specs.declared.rows.part.PartRow.{PartRow}
use Rattle.desk_model.specs.Lists.{Lists, is_material, is_part, material_row, part_row}
use Rattle.desk_model.proofs.Elements.{each, each_filter, each_map, sum_same}
use Rattle.desk_model.proofs.Kept.{code_cmp_total, each_kept, found_each, same_code-true}
use Rattle.desk_findings.specs.Above.{content, is_above, is_candidate}
use Rattle.desk_findings.specs.Articles.{is_article, is_article_sort}
use Rattle.desk_findings.specs.Bill.{IsBill, has_right_child}
use Rattle.desk_findings.specs.Carried.{own_load}
use Rattle.desk_findings.specs.Findings.{above, findings_of_article, findings_on, own_findings}
use Rattle.desk_findings.specs.Mass.{mass, own_mass}
use Rattle.desk_findings.specs.Reaches.{lines_of}
use Rattle.desk_findings.proofs.Bill.{has_parents, lines_of-none}
use Rattle.desk_findings.proofs.Children.{article_child, each_right_child, is_part-article, not_part, parents_kept}
use Rattle.desk_findings.proofs.FindingsOnce.{of_none}
use Rattle.desk_findings.proofs.Loads.{mass-step}
use Rattle.desk_findings.specs.Bill.{IsRight}
use Rattle.desk_findings.specs.OwnValues.{content_of_lines, findings_of_lines, is_over_thousandth, mass_of_lines}

-- a filter by a test that is the same on each element
filter_each : {X : Type 0} (p q : X → Bool) (xs : List X) → AllByRecursion (λ x. p x ≡ q x) xs → filter p xs ≡ filter q xs
filter_each p q [] a = refl
filter_each p q (x ∷ xs) a = rw (a.0, filter_each p q xs a.1) refl

bill_of : (t : Lists) → IsRight t → IsBill t
bill_of t right = record { parents = parents_kept t right.children; acyclic = right.acyclic }

none_of : {X : Type 0} (o : Option X) → is_some o ≡ false → o ≡ None
none_of None e = refl
none_of (Some x) e = absurd (true≢false e)

-- what is no article carries nothing by itself
no_load : (t : Lists) (code : List ℕ) → is_article t code ≡ false → (substance : List ℕ) → own_load t substance code ≡ 0
no_load t code e substance = rw e refl

no_own_mass : (t : Lists) (code : List ℕ) → is_material t code ≡ false → own_mass t code ≡ 0
no_own_mass t code e = ap (λ o. option_map_or (λ material. material.mass) o 0) (none_of (material_row t code) e)

pub of_other : (t : Lists) (code : List ℕ) → is_material t code ≡ false → is_article t code ≡ false → (own_mass t code ≡ 0) × (own_findings t code ≡ []) × ((substance : List ℕ) → own_load t substance code ≡ 0)
of_other t code material article = (no_own_mass t code material, of_none t code material article, no_load t code article)

module _ (t : Lists) (right : IsRight t) where
  no_article : (code : List ℕ) → is_material t code ≡ true → is_article t code ≡ false
  no_article code kept = false_from_ne_true (is_article t code) (λ article. both_ways (is_part t code) (not_part t right.apart code kept) (is_part-article t code article))

  -- a material weighs what it has of its own
  material_mass : (code : List ℕ) → is_material t code ≡ true → mass t code ≡ own_mass t code
  material_mass code kept =
      let bare = lines_of-none t (has_parents t (bill_of t right).parents) code (not_part t right.apart code kept) in
      let nothing : sum_by (λ line. line.count * mass t line.child) (lines_of t.lines code) ≡ 0 = rw bare refl in
      omega (arith, mass-step t (bill_of t right) code, nothing)

  append_none : {X : Type 0} (xs : List X) → xs ++ [] ≡ xs
  append_none [] = refl
  append_none (x ∷ xs) = ap (λ rest. x ∷ rest) (append_none xs)

  pub of_material : (code : List ℕ) (material : MaterialRow) → material_row t code ≡ Some material → (own_mass t code ≡ material.mass) × (mass t code ≡ material.mass) × (own_findings t code ≡ findings_on t material) × ((substance : List ℕ) → own_load t substance code ≡ 0)
  unfolding own_findings
  of_material code material e =
      let kept : is_material t code ≡ true = ap is_some e in
      let weighs : own_mass t code ≡ material.mass = ap (λ o. option_map_or (λ row. row.mass) o 0) e in
      let absent : part_row t code ≡ None = none_of (part_row t code) (not_part t right.apart code kept) in (
        weighs,
        material_mass code kept ∙ weighs,
        ap (λ o. option_map_or (findings_on t) o [] ++ option_map_or (λ part. if is_article_sort part.sort then findings_of_article t part else []) (part_row t code) []) e
            ∙ ap (λ o. findings_on t material ++ option_map_or (λ part. if is_article_sort part.sort then findings_of_article t part else []) o []) absent
            ∙ append_none (findings_on t material),
        no_load t code (no_article code kept),
      )

  module _ (code : List ℕ) (article : is_article t code ≡ true) where
    no_material : is_material t code ≡ false
    no_material = false_from_ne_true (is_material t code) (λ kept. both_ways (is_article t code) (no_article code kept) article)

    -- each line of an article leads to a material
    article_lines : AllByRecursion (λ line. is_material t line.child ≡ true) (lines_of t.lines code)
    article_lines =
        each_map (λ line. (has_right_child t line ≡ true) × (same_code line.parent code ≡ true)) (λ line. is_material t line.child ≡ true)
        (λ line h. article_child t line h.0 (subst (λ c. is_article t c ≡ true) (sym (same_code-true line.parent code h.1)) article))
        (lines_of t.lines code)
        (each_filter (λ line. has_right_child t line ≡ true) (λ line. same_code line.parent code) t.lines (each_right_child t right.children))

    article_mass : mass t code ≡ mass_of_lines (material_row t) (lines_of t.lines code)
    article_mass =
        let sums =
        sum_same (λ line. line.count * mass t line.child) (λ line. line.count * own_mass t line.child) (lines_of t.lines code)
        (each_map (λ line. is_material t line.child ≡ true) (λ line. line.count * mass t line.child ≡ line.count * own_mass t line.child) (λ line kept. ap (λ n. line.count * n) (material_mass line.child kept)) (lines_of t.lines code) article_lines) in
        omega (arith, mass-step t (bill_of t right) code, no_own_mass t code no_material, sums)

    article_content : (substance : List ℕ) → content t code substance ≡ content_of_lines (material_row t) (lines_of t.lines code) substance
    unfolding content
    article_content substance = refl

    article_above : (substance : List ℕ) → is_above t code substance ≡ (is_candidate t substance && is_over_thousandth (material_row t) (lines_of t.lines code) substance)
    unfolding is_above
    article_above substance =
        ap (λ n. is_candidate t substance && nat_lt n (1000 * content t code substance)) article_mass
        ∙ ap (λ n. is_candidate t substance && nat_lt (mass_of_lines (material_row t) (lines_of t.lines code)) (1000 * n)) (article_content substance)

    article_load : (substance : List ℕ) → own_load t substance code ≡ (if is_candidate t substance && is_over_thousandth (material_row t) (lines_of t.lines code) substance then content_of_lines (material_row t) (lines_of t.lines code) substance else 0)
    article_load substance =
        ap (λ b. if b && is_above t code substance then content t code substance else 0) article
        ∙ ap (λ b. if b then content t code substance else 0) (article_above substance)
        ∙ ap (λ n. if is_candidate t substance && is_over_thousandth (material_row t) (lines_of t.lines code) substance then n else 0) (article_content substance)

    -- each candidate's substance is one
    article_filter : filter (λ candidate. is_above t code candidate.substance) t.candidates ≡ filter (λ candidate. is_over_thousandth (material_row t) (lines_of t.lines code) candidate.substance) t.candidates
    article_filter =
        filter_each (λ candidate. is_above t code candidate.substance) (λ candidate. is_over_thousandth (material_row t) (lines_of t.lines code) candidate.substance) t.candidates
        (each_map (λ candidate. is_candidate t candidate.substance ≡ true) (λ candidate. is_above t code candidate.substance ≡ is_over_thousandth (material_row t) (lines_of t.lines code) candidate.substance)
        (λ candidate is. article_above candidate.substance ∙ ap (λ b. b && is_over_thousandth (material_row t) (lines_of t.lines code) candidate.substance) is) t.candidates
        (each_kept (λ row. row.substance) code_cmp code_cmp_total t.candidates))

    of_part : (o : Option PartRow) → part_row t code ≡ o → option_map_or (λ part. is_article_sort part.sort) o false ≡ true → option_map_or (λ part. if is_article_sort part.sort then findings_of_article t part else []) o [] ≡ map (λ candidate. above code candidate.substance) (filter (λ candidate. is_above t code candidate.substance) t.candidates)
    of_part None e sort = absurd (false≢true sort)
    of_part (Some part) e sort =
        let is = (found_each (λ row. row.code) (λ row. Unit {0}) code t.parts part (each (λ row. Unit {0}) (λ row. tt) t.parts) e).1 in
        ap (λ b. if b then findings_of_article t part else []) sort
        ∙ ap (λ c. map (λ candidate. above c candidate.substance) (filter (λ candidate. is_above t c candidate.substance) t.candidates)) is

    article_findings : own_findings t code ≡ findings_of_lines (material_row t) (lines_of t.lines code) t.candidates code
    unfolding own_findings
    article_findings =
        ap (λ o. option_map_or (findings_on t) o [] ++ option_map_or (λ part. if is_article_sort part.sort then findings_of_article t part else []) (part_row t code) []) (none_of (material_row t code) no_material)
        ∙ of_part (part_row t code) refl article
        ∙ ap (map (λ candidate. above code candidate.substance)) article_filter

    pub of_article : (own_mass t code ≡ 0)
        × (mass t code ≡ mass_of_lines (material_row t) (lines_of t.lines code))
        × (own_findings t code ≡ findings_of_lines (material_row t) (lines_of t.lines code) t.candidates code)
        × ((substance : List ℕ) → own_load t substance code ≡ (if is_candidate t substance && is_over_thousandth (material_row t) (lines_of t.lines code) substance then content_of_lines (material_row t) (lines_of t.lines code) substance else 0))
    of_article = (no_own_mass t code no_material, article_mass, article_findings, article_load)
