use Rattle.desk_history.proofs.AffectedAbove.{rises}
use Rattle.desk_history.proofs.laws.affected_rise.Goals as goal

pub returns : goal.returns
returns c = rises
