use Rattle.desk_history.proofs.Listing.{times_affected}
use Rattle.desk_history.proofs.SoundSteps.{IsConsistent-entered}
use Rattle.desk_history.proofs.laws.affected_are_listed.Goals as goal

pub returns : goal.returns
returns c t s edit passed code = times_affected t edit (IsConsistent-entered t edit s passed) code
