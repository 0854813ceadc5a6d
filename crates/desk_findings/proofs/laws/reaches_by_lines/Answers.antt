use Rattle.desk_findings.proofs.Bill.{has_parents, reaches-step}
use Rattle.desk_findings.proofs.laws.reaches_by_lines.Goals as goal

pub returns : goal.returns
returns c t parents part target = reaches-step t (has_parents t parents) target part
