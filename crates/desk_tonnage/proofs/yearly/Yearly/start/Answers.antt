use Rattle.desk_tonnage.proofs.Kept.{none_kept}
use Rattle.desk_tonnage.proofs.yearly.Yearly.start.Goals as goal

pub invariant_of-result : goal.invariant_of-result
invariant_of-result c = rw c.in_ok-with_capacity.ensures.items none_kept
