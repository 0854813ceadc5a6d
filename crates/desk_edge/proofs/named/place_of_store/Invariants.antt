use Rattle.std.proofs.Common.{take}
use Rattle.desk_edge.proofs.FirstNamed.{HaveNot}
use Rattle.desk_edge.proofs.named.place_of_store.Given as goal

abbrev pub invariant-loop-place : goal.invariant-loop-place
invariant-loop-place l = HaveNot (λ store. store.0) l.name (take l.place l.stores)
