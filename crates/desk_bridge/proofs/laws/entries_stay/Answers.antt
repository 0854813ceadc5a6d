use Rattle.desk_bridge.proofs.Years.{reweighed, shipped, taken_off}
use Rattle.desk_bridge.proofs.laws.entries_stay.Goals as goal

pub returns : goal.returns
returns c = record { shipped = shipped; taken_off = taken_off; weighed = reweighed }
