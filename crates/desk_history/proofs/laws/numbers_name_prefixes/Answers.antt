use Rattle.desk_history.proofs.Histories.{number_of-up_to, up_to-IsHistory, up_to-begins, up_to-only}
use Rattle.desk_history.proofs.laws.numbers_name_prefixes.Goals as goal

pub returns : goal.returns
returns c = record { number = number_of-up_to; history = up_to-IsHistory; begins = up_to-begins; only = up_to-only }
