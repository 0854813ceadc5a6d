use Rattle.desk_findings.proofs.Loads.{carried-le}
use Rattle.desk_findings.proofs.laws.carried_within_mass.Goals as goal

pub returns : goal.returns
returns c t right apart fit acyclic substance code = carried-le t right apart fit acyclic substance code
