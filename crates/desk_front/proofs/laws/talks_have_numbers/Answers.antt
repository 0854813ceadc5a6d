use Rattle.desk_front.proofs.Meeting.{with_numbers, without_numbers}
use Rattle.desk_front.proofs.laws.talks_have_numbers.Goals as goal

pub returns : goal.returns
returns c = record { numbers = with_numbers; talk = without_numbers }
