use Rattle.desk_findings.proofs.Loads.{carried-step}
use Rattle.desk_findings.proofs.laws.carried_by_lines.Goals as goal

pub returns : goal.returns
returns c t bill substance code = carried-step t bill substance code
