-- The answer on a product's compliance: Article 4 of Directive 2011/65/EU.
use Rattle.std.specs.Prelude.{ℕ, not, List, [], ◌++◌, codes, if◌then◌else◌}
use Rattle.std.specs.Fmt.{decimal}
use Rattle.std.specs.List.{flat_map}
use Rattle.desk_text.specs.Day.{Date, date_text}
use Rattle.desk_law.specs.declared.kind.Kind.{Kind}
use Rattle.desk_law.specs.declared.rule.Rule.{Rule}
use Rattle.desk_law.specs.Kind.{kind_code}
use Rattle.desk_model.specs.declared.rows.material.MaterialRow.{MaterialRow}
use Rattle.desk_model.specs.declared.rows.product.ProductRow.{ProductRow}
use Rattle.desk_model.specs.Lists.{Lists}
use Rattle.desk_findings.specs.Articles.{materials_in}
use Rattle.desk_findings.specs.Chain.{chain}
use Rattle.desk_findings.specs.Findings.{rules_over}
use Rattle.desk_findings.specs.Mass.{mass}
use Rattle.desk_scratch.specs.Judgement.{is_breached, reaches_breach}
use Rattle.desk_scratch.specs.MaterialBlock.{judged_words}
use Rattle.desk_scratch.specs.SharedLines.{chain_line, compliance_line, version_line}

-- `product CODE kind KIND day DAY mass MASS`
unfoldable pub asked_product_line : Lists → ProductRow → Date → List ℕ
asked_product_line t product day =
    codes "product " ++ product.part ++ codes " kind " ++ kind_code product.kind ++ codes " day " ++ date_text day
    ++ codes " mass " ++ decimal (mass t product.part) ++ codes "\n"

-- `over MATERIAL RULE share SHARE limit LIMIT VERDICT`
unfoldable pub over_line : Lists → Kind → Date → MaterialRow → Rule → List ℕ
over_line t kind day material rule = codes "over " ++ material.code ++ codes " " ++ judged_words t kind day material rule ++ codes "\n"

-- the line on a rule whose limit a material is over; where that is a breach, the chain to the material follows
unfoldable pub over_lines : Lists → ProductRow → Date → MaterialRow → Rule → List ℕ
over_lines t product day material rule =
    over_line t product.kind day material rule
    ++ (if is_breached t product.kind day material rule then chain_line (chain t product.part material.code) else [])

-- the number of the tables, what was asked, each reached material with each rule whose limit it is over, and whether none of these
-- is a breach
unfoldable pub rohs_text : Lists → ProductRow → Date → List ℕ
rohs_text t product day =
    version_line t
    ++ asked_product_line t product day
    ++ flat_map (λ material. flat_map (over_lines t product day material) (rules_over t material)) (materials_in t product.part)
    ++ compliance_line (not (reaches_breach t product.kind day product.part))
