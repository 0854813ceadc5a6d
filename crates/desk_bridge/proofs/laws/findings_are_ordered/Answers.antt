use Rattle.desk_bridge.proofs.InOrder.{in_order}
use Rattle.desk_bridge.proofs.laws.findings_are_ordered.Goals as goal

pub returns : goal.returns
returns c = in_order
