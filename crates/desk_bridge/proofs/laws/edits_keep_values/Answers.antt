use Rattle.desk_bridge.proofs.Numbers.{values_kept}
use Rattle.desk_bridge.proofs.laws.edits_keep_values.Goals as goal

pub returns : goal.returns
returns c = values_kept
