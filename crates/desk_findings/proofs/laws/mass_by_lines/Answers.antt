use Rattle.desk_findings.proofs.Loads.{mass-step}
use Rattle.desk_findings.proofs.laws.mass_by_lines.Goals as goal

pub returns : goal.returns
returns c t bill code = mass-step t bill code
