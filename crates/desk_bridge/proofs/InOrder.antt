-- The findings of a part stand in the order in which answers tell them.
use Rattle.std.proofs.Common.{◌≡◌, ℕ, ◌&&◌, List, [], ◌∷◌, filter, refl, Ordering, Less}
use Rattle.std.specs.Ordering.{nat_cmp}
use Rattle.std.specs.Cmp.{IsTotalOrder}
use Rattle.std.specs.List.{AllByRecursion, flat_map}
use Rattle.std.specs.List.Sorted.{IsStrictlySortedBy}
use Rattle.std.specs.Ordering.{on}
use Rattle.std.proofs.lemmas.Cmp.{nat_cmp_total, on_total, then_total, tied_itself}
use Rattle.std.proofs.lemmas.List.Kept.{IsStrictlySortedBy-filter}
use Rattle.desk_text.specs.Code.{code_cmp}
use Rattle.desk_law.specs.declared.rule.Rule.{Rule}
use Rattle.desk_law.specs.Rule.{restricting_rules, rule_number}
use Rattle.desk_law.proofs.Rules.{rules_rise}
use Rattle.desk_model.specs.declared.rows.candidate.CandidateRow.{CandidateRow}
use Rattle.desk_model.specs.declared.rows.material.MaterialRow.{MaterialRow}
use Rattle.desk_model.specs.declared.rows.part.PartRow.{PartRow}
use Rattle.desk_model.specs.Lists.{IsOrdered, Lists}
use Rattle.desk_model.proofs.Elements.{each, each_of_map}
use Rattle.desk_model.proofs.Kept.{code_cmp_total}
use Rattle.desk_findings.specs.Above.{is_above}
use Rattle.desk_findings.specs.Articles.{articles_in, is_article_sort, materials_in}
use Rattle.desk_findings.specs.Findings.{Finding, above, findings, findings_of_article, findings_on, is_in, over, rules_over, same_finding}
use Rattle.desk_findings.specs.Holders.{holder}
use Rattle.desk_findings.specs.Reaches.{is_or_reaches, reaches}
use Rattle.desk_findings.specs.Share.{is_over_limit}
use Rattle.desk_findings.proofs.FindingsOnce.{same_finding-true}
use Rattle.desk_findings.proofs.Numbering.{same_itself}
use Rattle.desk_bridge.specs.Order.{finding_candidate, finding_cmp, finding_kind, finding_rule}
use Rattle.desk_bridge.proofs.Sorted.{all_both, sorted_alike, sorted_both, sorted_flat, sorted_map, sorted_rows}

finding_cmp_total : IsTotalOrder finding_cmp
finding_cmp_total = then_total (on_total finding_kind nat_cmp_total) (then_total (on_total holder code_cmp_total) (then_total (on_total finding_rule nat_cmp_total) (on_total finding_candidate code_cmp_total)))

by_rule : (material : List ℕ) (a b : Rule) → nat_cmp (rule_number a) (rule_number b) ≡ Less → finding_cmp (over material a) (over material b) ≡ Less
by_rule material a b e = rw (tied_itself code_cmp_total material, e) refl

by_candidate : (article : List ℕ) (a b : CandidateRow) → code_cmp a.substance b.substance ≡ Less → finding_cmp (above article a.substance) (above article b.substance) ≡ Less
by_candidate article a b e = rw (tied_itself code_cmp_total article, e) refl

module _ (t : Lists) (ordered : IsOrdered t) where
  -- what is of a material, and of an article
  abbrev IsOn : MaterialRow → Finding → Type 0
  IsOn material finding = (finding_kind finding ≡ 0) × (holder finding ≡ material.code)

  abbrev IsOf : PartRow → Finding → Type 0
  IsOf article finding = (finding_kind finding ≡ 1) × (holder finding ≡ article.code)

  by_material : (a b : MaterialRow) (x y : Finding) → code_cmp a.code b.code ≡ Less → IsOn a x → IsOn b y → finding_cmp x y ≡ Less
  by_material a b x y e of_x of_y = rw (of_x.0, of_y.0, of_x.1, of_y.1, e) refl

  by_article : (a b : PartRow) (x y : Finding) → code_cmp a.code b.code ≡ Less → IsOf a x → IsOf b y → finding_cmp x y ≡ Less
  by_article a b x y e of_x of_y = rw (of_x.0, of_y.0, of_x.1, of_y.1, e) refl

  on_material : (material : MaterialRow) → AllByRecursion (IsOn material) (findings_on t material)
  on_material material = each_of_map (IsOn material) (over material.code) (rules_over t material) (each (λ rule. IsOn material (over material.code rule)) (λ rule. (refl, refl)) (rules_over t material))

  of_article : (article : PartRow) → AllByRecursion (IsOf article) (findings_of_article t article)
  of_article article =
      let found = filter (λ candidate. is_above t article.code candidate.substance) t.candidates in
      each_of_map (IsOf article) (λ candidate. above article.code candidate.substance) found (each (λ candidate. IsOf article (above article.code candidate.substance)) (λ candidate. (refl, refl)) found)

  on_material_rise : (material : MaterialRow) → IsStrictlySortedBy finding_cmp (findings_on t material)
  on_material_rise material =
      sorted_map finding_cmp (on rule_number nat_cmp) (over material.code) (by_rule material.code) (rules_over t material)
      (IsStrictlySortedBy-filter (on rule_number nat_cmp) (λ rule. is_over_limit t rule material) restricting_rules rules_rise)

  of_article_rise : (article : PartRow) → IsStrictlySortedBy finding_cmp (findings_of_article t article)
  of_article_rise article =
      let by_substance : CandidateRow → CandidateRow → Ordering = λ a b. code_cmp a.substance b.substance in
      sorted_map finding_cmp by_substance (λ candidate. above article.code candidate.substance) (by_candidate article.code) (filter (λ candidate. is_above t article.code candidate.substance) t.candidates)
      (IsStrictlySortedBy-filter by_substance (λ candidate. is_above t article.code candidate.substance) t.candidates (sorted_rows code_cmp (λ row. row.substance) t.candidates ordered.candidates))

  in_materials_rise : (part : List ℕ) → IsStrictlySortedBy finding_cmp (flat_map (findings_on t) (materials_in t part))
  in_materials_rise part =
      let by_code : MaterialRow → MaterialRow → Ordering = λ a b. code_cmp a.code b.code in
      sorted_flat finding_cmp by_code IsOn by_material (findings_on t) on_material on_material_rise (materials_in t part)
      (IsStrictlySortedBy-filter by_code (λ material. reaches t part material.code) t.materials (sorted_rows code_cmp (λ row. row.code) t.materials ordered.materials))

  on_articles_rise : (part : List ℕ) → IsStrictlySortedBy finding_cmp (flat_map (findings_of_article t) (articles_in t part))
  on_articles_rise part =
      let by_code : PartRow → PartRow → Ordering = λ a b. code_cmp a.code b.code in
      sorted_flat finding_cmp by_code IsOf by_article (findings_of_article t) of_article of_article_rise (articles_in t part)
      (IsStrictlySortedBy-filter by_code (λ article. is_article_sort article.sort && is_or_reaches t part article.code) t.parts (sorted_rows code_cmp (λ row. row.code) t.parts ordered.parts))

  all_of_flat : {R : Type 0} (P : Finding → Type 0) (f : R → List Finding) → ((row : R) → AllByRecursion P (f row)) → (rows : List R) → AllByRecursion P (flat_map f rows)
  all_of_flat P f all [] = tt
  all_of_flat P f all (row ∷ rows) = all_both P (f row) (flat_map f rows) (all row) (all_of_flat P f all rows)

  pub findings_rise : (part : List ℕ) → IsStrictlySortedBy finding_cmp (findings t part)
  unfolding findings
  findings_rise part =
      let on_articles = flat_map (findings_of_article t) (articles_in t part) in
      sorted_both finding_cmp (flat_map (findings_on t) (materials_in t part)) on_articles (in_materials_rise part) (on_articles_rise part)
      (all_of_flat (λ x. AllByRecursion (λ y. finding_cmp x y ≡ Less) on_articles) (findings_on t) (λ material. each_first material) (materials_in t part))
    where
      each_first : (material : MaterialRow) → AllByRecursion (λ x. AllByRecursion (λ y. finding_cmp x y ≡ Less) (flat_map (findings_of_article t) (articles_in t part))) (findings_on t material)
      each_first material =
          let on_articles = flat_map (findings_of_article t) (articles_in t part) in
          let P : Finding → Type 0 = λ x. AllByRecursion (λ y. finding_cmp x y ≡ Less) on_articles in
          each_of_map P (over material.code) (rules_over t material)
          (each (λ rule. P (over material.code rule))
          (λ rule. all_of_flat (λ y. finding_cmp (over material.code rule) y ≡ Less) (findings_of_article t) (λ article. all_above rule article) (articles_in t part))
          (rules_over t material))
        where
          all_above : (rule : Rule) (article : PartRow) → AllByRecursion (λ y. finding_cmp (over material.code rule) y ≡ Less) (findings_of_article t article)
          all_above rule article =
              let found = filter (λ candidate. is_above t article.code candidate.substance) t.candidates in
              each_of_map (λ y. finding_cmp (over material.code rule) y ≡ Less) (λ candidate. above article.code candidate.substance) found
              (each (λ candidate. finding_cmp (over material.code rule) (above article.code candidate.substance) ≡ Less) (λ candidate. refl) found)

-- just the findings of a part, in their order
pub in_order : (t : Lists) → IsOrdered t → (part : List ℕ) (found : List Finding) → IsStrictlySortedBy finding_cmp found →
    ((finding : Finding) → is_in finding found ≡ is_in finding (findings t part)) → found ≡ findings t part
in_order t ordered part found rises alike = sorted_alike finding_cmp finding_cmp_total same_finding same_itself same_finding-true found (findings t part) rises (findings_rise t ordered part) alike
