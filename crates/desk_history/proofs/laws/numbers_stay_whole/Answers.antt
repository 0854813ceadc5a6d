use Rattle.desk_history.proofs.Steps.{are_numbers-step}
use Rattle.desk_history.proofs.laws.numbers_stay_whole.Goals as goal

pub returns : goal.returns
returns c t edit numbered = are_numbers-step t edit numbered
