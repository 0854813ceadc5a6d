use Rattle.desk_history.proofs.Unaffected.{stays}
use Rattle.desk_history.proofs.laws.others_stay.Goals as goal

pub returns : goal.returns
returns c = stays
