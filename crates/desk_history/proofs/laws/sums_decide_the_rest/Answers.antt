use Rattle.desk_history.proofs.Rules.{accepted_by_sums, sums_of}
use Rattle.desk_history.proofs.laws.sums_decide_the_rest.Goals as goal

pub returns : goal.returns
returns c = record { kept = accepted_by_sums; accepted = sums_of }
