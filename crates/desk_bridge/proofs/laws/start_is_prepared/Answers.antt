use Rattle.desk_bridge.proofs.Values.{start_prepared}
use Rattle.desk_bridge.proofs.laws.start_is_prepared.Goals as goal

pub returns : goal.returns
returns c = start_prepared
