use Rattle.desk_history.proofs.Steps.{refusal-cause, refusal-new, step-refused}
use Rattle.desk_history.proofs.laws.refusals_are_told.Goals as goal

pub returns : goal.returns
returns c = record { told = step-refused; is_new = refusal-new; cause = refusal-cause }
