use Rattle.desk_front.proofs.Meeting.{begin_with_all_met}
use Rattle.desk_front.proofs.laws.answers_begin_with_all_met.Goals as goal

pub returns : goal.returns
returns c = begin_with_all_met
