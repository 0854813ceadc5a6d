use Rattle.desk_findings.proofs.FindingsStored.{by_holder}
use Rattle.desk_findings.proofs.laws.findings_by_holder.Goals as goal

pub returns : goal.returns
returns c = by_holder
