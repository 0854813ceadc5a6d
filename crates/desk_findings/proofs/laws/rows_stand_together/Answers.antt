use Rattle.desk_findings.proofs.Groups.{lines_together, members_together, shipments_together}
use Rattle.desk_findings.proofs.laws.rows_stand_together.Goals as goal

pub returns : goal.returns
returns c = record { lines = lines_together; shipments = shipments_together; members = members_together }
