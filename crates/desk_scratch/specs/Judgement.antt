-- Breaches: RoHS Article 4(1).
use Rattle.std.specs.Prelude.{ℕ, Bool, true, false, List, count_by, sum_by}
use Rattle.std.specs.List.{list_any}
use Rattle.desk_text.specs.Day.{Date}
use Rattle.desk_law.specs.declared.kind.Kind.{Kind}
use Rattle.desk_law.specs.declared.rule.Rule.{Rule}
use Rattle.desk_law.specs.declared.verdict.Verdict.{Verdict}
use Rattle.desk_law.specs.declared.verdict.Verdict.TheVariants.{Within, NotInForce, Exempt, Breach}
use Rattle.desk_law.specs.Rule.{restricting_rules}
use Rattle.desk_model.specs.declared.rows.material.MaterialRow.{MaterialRow}
use Rattle.desk_model.specs.Lists.{Lists}
use Rattle.desk_findings.specs.Articles.{materials_in}
use Rattle.desk_findings.specs.Verdicts.{verdict_on}

-- the verdict is a breach, and none of the other three
abbrev pub is_breach : Verdict → Bool
is_breach Breach = true
is_breach Within = false
is_breach NotInForce = false
is_breach (Exempt place) = false

-- the rule is breached by the material
abbrev pub is_breached : Lists → Kind → Date → MaterialRow → Rule → Bool
is_breached t kind day material rule = is_breach (verdict_on t kind day material rule)

-- some rule is breached by the material
abbrev pub has_breach : Lists → Kind → Date → MaterialRow → Bool
has_breach t kind day material = list_any (is_breached t kind day material) restricting_rules

-- some rule is breached by a material that the part reaches
abbrev pub reaches_breach : Lists → Kind → Date → List ℕ → Bool
reaches_breach t kind day part = list_any (has_breach t kind day) (materials_in t part)

-- how often a rule is breached by a material that the part reaches
abbrev pub breach_count : Lists → Kind → Date → List ℕ → ℕ
breach_count t kind day part = sum_by (λ material. count_by (is_breached t kind day material) restricting_rules) (materials_in t part)
