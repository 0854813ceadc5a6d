use Rattle.desk_history.proofs.Steps.{refused-leaves, step-kept}
use Rattle.desk_history.proofs.laws.only_new_edits_change.Goals as goal

pub returns : goal.returns
returns c = record { refused = refused-leaves; kept = step-kept }
