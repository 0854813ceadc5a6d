use Rattle.desk_history.proofs.Unsound.{found, told}
use Rattle.desk_history.proofs.laws.unsound_is_told.Goals as goal

pub returns : goal.returns
returns c = record { told = told; found = found }
