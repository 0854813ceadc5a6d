use Rattle.desk_front.proofs.Meeting.{talks_longer}
use Rattle.desk_front.proofs.laws.talks_stay_true.Goals as goal

pub returns : goal.returns
returns c = talks_longer
