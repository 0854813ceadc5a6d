use Rattle.std.proofs.Common.{take}
use Rattle.desk_edge.proofs.FirstNamed.{HaveNot}
use Rattle.desk_edge.proofs.named.place_of_name.Given as goal

abbrev pub invariant-loop-place : goal.invariant-loop-place
invariant-loop-place l = HaveNot (λ own. own) l.name (take l.place l.names)
