use Rattle.desk_rollup.proofs.OneNode.{step_stays}
use Rattle.desk_rollup.proofs.laws.stays_right.Goals as goal

pub returns : goal.returns
returns c = step_stays
