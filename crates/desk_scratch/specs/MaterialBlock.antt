-- The lines on one material: what was declared of it, and its verdict for each rule.
use Rattle.std.specs.Prelude.{ℕ, ◌*◌, List, ◌++◌, codes, Option, None, Some, slice_get}
use Rattle.std.specs.Fmt.{decimal}
use Rattle.std.specs.List.{flat_map}
use Rattle.desk_text.specs.Day.{Date}
use Rattle.desk_law.specs.declared.kind.Kind.{Kind}
use Rattle.desk_law.specs.declared.rule.Rule.{Rule}
use Rattle.desk_law.specs.declared.terms.Terms.{Terms}
use Rattle.desk_law.specs.declared.verdict.Verdict.{Verdict}
use Rattle.desk_law.specs.declared.verdict.Verdict.TheVariants.{Within, NotInForce, Exempt, Breach}
use Rattle.desk_law.specs.Limit.{limit_of}
use Rattle.desk_law.specs.Rule.{restricting_rules, rule_code}
use Rattle.desk_model.specs.declared.rows.material.MaterialRow.{MaterialRow}
use Rattle.desk_model.specs.Lists.{Lists}
use Rattle.desk_findings.specs.Share.{share}
use Rattle.desk_findings.specs.Verdicts.{terms_of, verdict_on}

-- the words for the exemption row that a verdict names; the first case never comes, since a verdict names a place among the rows
abbrev pub exempt_words : Option Terms → List ℕ
exempt_words None = codes "exempt"
exempt_words (Some row) = codes "exempt " ++ row.number ++ codes " row " ++ row.row

-- a verdict in words
unfoldable pub verdict_words : List Terms → Verdict → List ℕ
verdict_words rows Within = codes "within"
verdict_words rows NotInForce = codes "not-in-force"
verdict_words rows (Exempt place) = exempt_words (slice_get rows place)
verdict_words rows Breach = codes "breach"

-- `material CODE supplier SUPPLIER declaration NUMBER mass MASS`
unfoldable pub material_line_with : List ℕ → List ℕ → ℕ → ℕ → List ℕ
material_line_with code supplier number mass =
    codes "material " ++ code ++ codes " supplier " ++ supplier
    ++ codes " declaration " ++ decimal number ++ codes " mass " ++ decimal mass ++ codes "\n"

-- the line on a material: what was declared of it
abbrev pub material_line : MaterialRow → List ℕ
material_line material = material_line_with material.code material.supplier material.number material.mass

-- `RULE share SHARE limit LIMIT VERDICT`; share and limit are both in millionths of a microgram
abbrev pub judged_words_with : Rule → ℕ → ℕ → List ℕ → List ℕ
judged_words_with rule share limit verdict =
    rule_code rule ++ codes " share " ++ decimal share ++ codes " limit " ++ decimal limit ++ codes " " ++ verdict

-- the words on a rule of a material: its share, the limit, which is ppm times mass, and the verdict
abbrev pub judged_words : Lists → Kind → Date → MaterialRow → Rule → List ℕ
judged_words t kind day material rule =
    judged_words_with rule (share t rule material) (limit_of rule * material.mass)
    (verdict_words (terms_of t) (verdict_on t kind day material rule))

-- a rule's line of these parts
unfoldable pub rule_line_with : Rule → ℕ → ℕ → List ℕ → List ℕ
rule_line_with rule share limit verdict = codes "rule " ++ judged_words_with rule share limit verdict ++ codes "\n"

-- `rule RULE share SHARE limit LIMIT VERDICT`
unfoldable pub rule_line : Lists → Kind → Date → MaterialRow → Rule → List ℕ
rule_line t kind day material rule = codes "rule " ++ judged_words t kind day material rule ++ codes "\n"

-- the material's line, and a line for each rule in order of number
unfoldable pub material_block : Lists → Kind → Date → MaterialRow → List ℕ
material_block t kind day material = material_line material ++ flat_map (rule_line t kind day material) restricting_rules
