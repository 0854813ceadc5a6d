-- Verdicts on kept materials: Article 4 of Directive 2011/65/EU.
use Rattle.std.specs.Prelude.{List, map}
use Rattle.desk_text.specs.Day.{Date}
use Rattle.desk_law.specs.declared.kind.Kind.{Kind}
use Rattle.desk_law.specs.declared.rule.Rule.{Rule}
use Rattle.desk_law.specs.declared.terms.Terms.{Terms}
use Rattle.desk_law.specs.declared.verdict.Verdict.{Verdict}
use Rattle.desk_law.specs.Verdict.{verdict}
use Rattle.desk_model.specs.declared.rows.material.MaterialRow.{MaterialRow}
use Rattle.desk_model.specs.Lists.{Lists}
use Rattle.desk_findings.specs.Share.{share}

-- the terms of the exemption rows, in order of their codes
abbrev pub terms_of : Lists → List Terms
terms_of t = map (λ row. row.terms) t.exemptions

-- the verdict on a material for a rule, a kind of equipment and a day, by the tables' members and exemption rows
unfoldable pub verdict_on : Lists → Kind → Date → MaterialRow → Rule → Verdict
verdict_on t kind day material rule =
    verdict (share t rule material) material.mass material.claims rule kind day (terms_of t)
