-- The findings of a part, and what the answer on a product's compliance tells of the materials that it reaches.
use Rattle.std.proofs.Common.{◌≡◌, ◌∙◌, append_assoc, ap, refl, sym, ℕ, Bool, true, false, List, [], ◌++◌, Some, count_by, filter, map, arith}
use Rattle.std.specs.Prelude.{◌||◌, if◌then◌else◌}
use Rattle.std.specs.List.{AllByRecursion, flat_map, list_any}
use Rattle.std.specs.Option.{option_map_or}
use Rattle.std.proofs.lemmas.List.{append-nil}
use Rattle.std.proofs.lemmas.List.Concat.{flat_map-append}
use Rattle.desk_text.specs.Code.{code_cmp}
use Rattle.desk_text.specs.Day.{Date}
use Rattle.desk_law.specs.declared.kind.Kind.{Kind}
use Rattle.desk_law.specs.declared.rule.Rule.{Rule}
use Rattle.desk_law.specs.Rule.{restricting_rules}
use Rattle.desk_model.specs.declared.rows.candidate.CandidateRow.{CandidateRow}
use Rattle.desk_model.specs.declared.rows.material.MaterialRow.{MaterialRow}
use Rattle.desk_model.specs.declared.rows.part.PartRow.{PartRow}
use Rattle.desk_model.specs.declared.rows.product.ProductRow.{ProductRow}
use Rattle.desk_model.specs.Lists.{IsOrdered, Lists, material_row}
use Rattle.desk_model.proofs.Anys.{any-append, any-flat_map, count-append, count-flat_map, count-map}
use Rattle.desk_model.proofs.Elements.{any-map, any_same, each, each_filter, each_map, sum_same}
use Rattle.desk_model.proofs.Kept.{code_cmp_total}
use Rattle.desk_findings.specs.Above.{is_above}
use Rattle.desk_findings.specs.Articles.{articles_in, materials_in}
use Rattle.desk_findings.specs.Chain.{chain}
use Rattle.desk_findings.specs.Findings.{above, findings, findings_of_article, findings_on, over, rules_over}
use Rattle.desk_findings.specs.Reaches.{reaches}
use Rattle.desk_findings.specs.Share.{is_over_limit}
use Rattle.desk_tables.proofs.OwnMasses.{each_found}
use Rattle.desk_scratch.specs.Judgement.{breach_count, has_breach, is_breached, reaches_breach}
use Rattle.desk_scratch.specs.LookUps.{is_finding_breached, lines_on}
use Rattle.desk_scratch.specs.Rohs.{over_line, over_lines}
use Rattle.desk_scratch.specs.SharedLines.{chain_line}
use Rattle.desk_scratch.proofs.FlatMaps.{any-kept, count-kept, each_nothing, each_the_same, no_any, no_count, of_flat_map, of_map}
use Rattle.desk_scratch.proofs.Overs.{not_over}

or_none : (b : Bool) → (b || false) ≡ b
or_none true = refl
or_none false = refl

module _ (t : Lists) (ordered : IsOrdered t) (part : List ℕ) where
  materials_found : AllByRecursion (λ (material : MaterialRow). material_row t material.code ≡ Some material) (materials_in t part)
  materials_found =
      each_map (λ (material : MaterialRow). (material_row t material.code ≡ Some material) × (reaches t part material.code ≡ true)) (λ (material : MaterialRow). material_row t material.code ≡ Some material) (λ material h. h.0) (materials_in t part)
      (each_filter (λ (material : MaterialRow). material_row t material.code ≡ Some material) (λ material. reaches t part material.code) t.materials
      (each_found (λ (row : MaterialRow). row.code) code_cmp code_cmp_total t.materials ordered.materials))

  module _ (product : ProductRow) (day : Date) where
    of_material : (material : MaterialRow) → material_row t material.code ≡ Some material
        → flat_map (lines_on t product day) (findings_on t material) ≡ flat_map (over_lines t product day material) (rules_over t material)
    unfolding lines_on
    of_material material found =
        of_map (lines_on t product day) (over material.code) (rules_over t material)
        ∙ ap (λ row. flat_map (λ rule. option_map_or (λ one. over_lines t product day one rule) row []) (rules_over t material)) found

    of_article : (article : PartRow) → flat_map (lines_on t product day) (findings_of_article t article) ≡ []
    unfolding lines_on
    of_article article =
        let there = filter (λ candidate. is_above t article.code candidate.substance) t.candidates in
        of_map (lines_on t product day) (λ (candidate : CandidateRow). above article.code candidate.substance) there
        ∙ each_nothing (λ (candidate : CandidateRow). lines_on t product day (above article.code candidate.substance)) there (each (λ (candidate : CandidateRow). lines_on t product day (above article.code candidate.substance) ≡ []) (λ candidate. refl) there)

    -- the lines on each material and each rule whose limit it is over are those on the findings
    pub found_lines : flat_map (lines_on t product day) (findings t part) ≡ flat_map (λ material. flat_map (over_lines t product day material) (rules_over t material)) (materials_in t part)
    unfolding findings
    found_lines =
        let lines = lines_on t product day in
        let overs = flat_map (λ material. flat_map (over_lines t product day material) (rules_over t material)) (materials_in t part) in
        let first : flat_map lines (flat_map (findings_on t) (materials_in t part)) ≡ overs =
        of_flat_map lines (findings_on t) (materials_in t part)
        ∙ each_the_same (λ material. flat_map lines (findings_on t material)) (λ material. flat_map (over_lines t product day material) (rules_over t material)) (materials_in t part)
        (each_map (λ (material : MaterialRow). material_row t material.code ≡ Some material) (λ material. flat_map lines (findings_on t material) ≡ flat_map (over_lines t product day material) (rules_over t material)) of_material (materials_in t part) materials_found) in
        let second : flat_map lines (flat_map (findings_of_article t) (articles_in t part)) ≡ [] =
        of_flat_map lines (findings_of_article t) (articles_in t part)
        ∙ each_nothing (λ article. flat_map lines (findings_of_article t article)) (articles_in t part) (each (λ article. flat_map lines (findings_of_article t article) ≡ []) of_article (articles_in t part)) in
        flat_map-append lines (flat_map (findings_on t) (materials_in t part)) (flat_map (findings_of_article t) (articles_in t part))
        ∙ ap (λ list. list ++ flat_map lines (flat_map (findings_of_article t) (articles_in t part))) first
        ∙ ap (λ list. overs ++ list) second
        ∙ append-nil overs

  module _ (kind : Kind) (day : Date) where
    only_over : (material : MaterialRow) (rule : Rule) → is_over_limit t rule material ≡ false → is_breached t kind day material rule ≡ false
    only_over material rule e = not_over t kind day material rule e

    no_article : (article : PartRow) → AllByRecursion (λ finding. is_finding_breached t kind day finding ≡ false) (findings_of_article t article)
    unfolding is_finding_breached
    no_article article = by (filter (λ candidate. is_above t article.code candidate.substance) t.candidates)
      where
        by : (candidates : List CandidateRow) → AllByRecursion (λ finding. is_finding_breached t kind day finding ≡ false) (map (λ (candidate : CandidateRow). above article.code candidate.substance) candidates)
        by candidates = Rattle.desk_model.proofs.Elements.each_of_map (λ finding. is_finding_breached t kind day finding ≡ false) (λ (candidate : CandidateRow). above article.code candidate.substance) candidates (each _ (λ candidate. refl) candidates)

    any_of_material : (material : MaterialRow) → material_row t material.code ≡ Some material → list_any (is_finding_breached t kind day) (findings_on t material) ≡ has_breach t kind day material
    unfolding is_finding_breached
    any_of_material material found =
        any-map (is_finding_breached t kind day) (over material.code) (rules_over t material)
        ∙ ap (λ row. list_any (λ rule. option_map_or (λ one. is_breached t kind day one rule) row false) (rules_over t material)) found
        ∙ any-kept (λ rule. is_over_limit t rule material) (is_breached t kind day material) (only_over material) restricting_rules

    -- some finding is a breach exactly where a material that is reached breaches a rule
    pub found_breach : list_any (is_finding_breached t kind day) (findings t part) ≡ reaches_breach t kind day part
    unfolding findings
    found_breach =
        let breach = is_finding_breached t kind day in
        let first : list_any breach (flat_map (findings_on t) (materials_in t part)) ≡ reaches_breach t kind day part =
        any-flat_map breach (findings_on t) (materials_in t part)
        ∙ any_same (λ material. list_any breach (findings_on t material)) (has_breach t kind day) (materials_in t part)
        (each_map (λ (material : MaterialRow). material_row t material.code ≡ Some material) (λ material. list_any breach (findings_on t material) ≡ has_breach t kind day material) any_of_material (materials_in t part) materials_found) in
        let second : list_any breach (flat_map (findings_of_article t) (articles_in t part)) ≡ false =
        any-flat_map breach (findings_of_article t) (articles_in t part)
        ∙ no_any (λ article. list_any breach (findings_of_article t article)) (articles_in t part)
        (each (λ article. list_any breach (findings_of_article t article) ≡ false) (λ article. no_any breach (findings_of_article t article) (no_article article)) (articles_in t part)) in
        any-append breach (flat_map (findings_on t) (materials_in t part)) (flat_map (findings_of_article t) (articles_in t part))
        ∙ rw (first, second) (or_none (reaches_breach t kind day part))

    count_of_material : (material : MaterialRow) → material_row t material.code ≡ Some material → count_by (is_finding_breached t kind day) (findings_on t material) ≡ count_by (is_breached t kind day material) restricting_rules
    unfolding is_finding_breached
    count_of_material material found =
        count-map (is_finding_breached t kind day) (over material.code) (rules_over t material)
        ∙ ap (λ row. count_by (λ rule. option_map_or (λ one. is_breached t kind day one rule) row false) (rules_over t material)) found
        ∙ count-kept (λ rule. is_over_limit t rule material) (is_breached t kind day material) (only_over material) restricting_rules

    -- there are as many breaches among the findings as the materials that are reached have
    pub found_breaches : count_by (is_finding_breached t kind day) (findings t part) ≡ breach_count t kind day part
    unfolding findings
    found_breaches =
        let breach = is_finding_breached t kind day in
        let first : count_by breach (flat_map (findings_on t) (materials_in t part)) ≡ breach_count t kind day part =
        count-flat_map breach (findings_on t) (materials_in t part)
        ∙ sum_same (λ material. count_by breach (findings_on t material)) (λ material. count_by (is_breached t kind day material) restricting_rules) (materials_in t part)
        (each_map (λ (material : MaterialRow). material_row t material.code ≡ Some material) (λ material. count_by breach (findings_on t material) ≡ count_by (is_breached t kind day material) restricting_rules) count_of_material (materials_in t part) materials_found) in
        let second : count_by breach (flat_map (findings_of_article t) (articles_in t part)) ≡ 0 =
        count-flat_map breach (findings_of_article t) (articles_in t part)
        ∙ Rattle.desk_model.proofs.Elements.sum_zero (λ article. count_by breach (findings_of_article t article)) (articles_in t part)
        (each (λ article. count_by breach (findings_of_article t article) ≡ 0) (λ article. no_count breach (findings_of_article t article) (no_article article)) (articles_in t part)) in
        omega (arith, count-append breach (flat_map (findings_on t) (materials_in t part)) (flat_map (findings_of_article t) (articles_in t part)), first, second)

-- the line on a material that is found, and the chain to it where that is a breach
pub over_appended : (t : Lists) (product : ProductRow) (day : Date) (material : List ℕ) (rule : Rule) (row : MaterialRow) (breach : Bool) (old mid new : List ℕ)
    → material_row t material ≡ Some row → row.code ≡ material → mid ≡ old ++ over_line t product.kind day row rule → breach ≡ is_breached t product.kind day row rule
    → new ≡ mid ++ (if breach then chain_line (chain t product.part material) else []) → new ≡ old ++ lines_on t product day (over material rule)
unfolding lines_on over_lines
over_appended t product day material rule row breach old mid new found code line is step =
    let tail : Bool → List ℕ → List ℕ = λ b m. if b then chain_line (chain t product.part m) else [] in
    let first = over_line t product.kind day row rule in
    step
    ∙ ap (λ (list : List ℕ). list ++ tail breach material) line
    ∙ append_assoc old first (tail breach material)
    ∙ ap (λ b. old ++ (first ++ tail b material)) is
    ∙ ap (λ m. old ++ (first ++ tail (is_breached t product.kind day row rule) m)) (sym code)
    ∙ ap (λ one. old ++ option_map_or (λ its. over_lines t product day its rule) one []) (sym found)
