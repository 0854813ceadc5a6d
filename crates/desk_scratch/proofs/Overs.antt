-- A rule whose limit a material is not over is not breached by it.
use Rattle.std.proofs.Common.{◌≡◌, false, refl}
use Rattle.desk_text.specs.Day.{Date}
use Rattle.desk_law.specs.declared.kind.Kind.{Kind}
use Rattle.desk_law.specs.declared.rule.Rule.{Rule}
use Rattle.desk_law.specs.Restriction.{restriction_of}
use Rattle.desk_law.specs.Verdict.{verdict, verdict_by}
use Rattle.desk_model.specs.declared.rows.material.MaterialRow.{MaterialRow}
use Rattle.desk_model.specs.Lists.{Lists}
use Rattle.desk_findings.specs.Share.{is_over_limit}
use Rattle.desk_findings.specs.Verdicts.{verdict_on}
use Rattle.desk_scratch.specs.Judgement.{is_breached}

pub not_over : (t : Lists) (kind : Kind) (day : Date) (material : MaterialRow) (rule : Rule) → is_over_limit t rule material ≡ false → is_breached t kind day material rule ≡ false
unfolding verdict_on verdict verdict_by restriction_of
not_over t kind day material rule e = rw e refl
