-- The findings of a part: what the law may ask about in it, on whatever day.
use Rattle.std.specs.Prelude.{ℕ, Bool, false, ◌&&◌, List, [], ◌++◌, filter, length, map, sum_by, if◌then◌else◌}
use Rattle.std.specs.List.{flat_map, list_any}
use Rattle.std.specs.Option.{option_map_or}
use Rattle.desk_text.specs.Code.{same_code}
use Rattle.desk_law.specs.declared.rule.Rule.{Rule}
use Rattle.desk_law.specs.Rule.{restricting_rules, same_rule}
use Rattle.desk_model.specs.declared.rows.material.MaterialRow.{MaterialRow}
use Rattle.desk_model.specs.declared.rows.part.PartRow.{PartRow}
use Rattle.desk_findings.specs.Above.{is_above}
use Rattle.desk_findings.specs.Articles.{articles_in, is_article_sort, materials_in}
use Rattle.desk_model.specs.Lists.{Lists, material_row, part_row}
use Rattle.desk_findings.specs.Share.{is_over_limit}

-- a finding, on a material or on an article
pub data Finding : Type 0 where
  -- the material is over the rule's limit
  over : List ℕ → Rule → Finding
  -- the substance is above in the article
  above : List ℕ → List ℕ → Finding

-- the rules whose limit the material is over
abbrev pub rules_over : Lists → MaterialRow → List Rule
rules_over t material = filter (λ rule. is_over_limit t rule material) restricting_rules

-- the findings in a material, in order of the rule's number
abbrev pub findings_on : Lists → MaterialRow → List Finding
findings_on t material = map (over material.code) (rules_over t material)

-- the findings on an article, in order of the substance
abbrev pub findings_of_article : Lists → PartRow → List Finding
findings_of_article t article =
    map (λ candidate. above article.code candidate.substance)
    (filter (λ candidate. is_above t article.code candidate.substance) t.candidates)

-- the findings of a part: those in the materials that it reaches, and those on the articles that it reaches or is
unfoldable pub findings : Lists → List ℕ → List Finding
findings t part = flat_map (findings_on t) (materials_in t part) ++ flat_map (findings_of_article t) (articles_in t part)

-- how many findings all parts have together
unfoldable pub finding_count : Lists → ℕ
finding_count t = sum_by (λ part. length (findings t part.code)) t.parts

-- the two are the same finding
abbrev pub same_finding : Finding → Finding → Bool
same_finding (over material rule) (over other another) = same_code material other && same_rule rule another
same_finding (over material rule) (above article substance) = false
same_finding (above article substance) (over material rule) = false
same_finding (above article substance) (above other another) = same_code article other && same_code substance another

-- the finding is in the list
abbrev pub is_in : Finding → List Finding → Bool
is_in finding list = list_any (same_finding finding) list

-- what is found at a code by itself: on a material, or on an article; anything else has nothing
unfoldable pub own_findings : Lists → List ℕ → List Finding
own_findings t code =
    option_map_or (findings_on t) (material_row t code) []
    ++ option_map_or (λ part. if is_article_sort part.sort then findings_of_article t part else []) (part_row t code) []

-- what is found at a code: a material's own findings, or a part's
unfoldable pub findings_at : Lists → List ℕ → List Finding
findings_at t code = option_map_or (findings_on t) (material_row t code) [] ++ findings t code
