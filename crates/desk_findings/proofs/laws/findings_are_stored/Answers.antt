use Rattle.desk_findings.proofs.FindingsStored.{stored_right}
use Rattle.desk_findings.proofs.laws.findings_are_stored.Goals as goal

pub returns : goal.returns
returns c = stored_right
