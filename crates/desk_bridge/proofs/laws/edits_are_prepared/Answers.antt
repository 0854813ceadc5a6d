use Rattle.desk_bridge.proofs.AfterEdit.{affected_agree, can_prepare, owns_after}
use Rattle.desk_bridge.proofs.laws.edits_are_prepared.Goals as goal

pub returns : goal.returns
returns c = record { affected = affected_agree; owns = owns_after; prepared = can_prepare }
