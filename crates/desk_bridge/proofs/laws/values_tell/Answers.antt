use Rattle.desk_bridge.proofs.Values.{values_of}
use Rattle.desk_bridge.proofs.laws.values_tell.Goals as goal

pub returns : goal.returns
returns c = values_of
