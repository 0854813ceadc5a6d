use Rattle.std.proofs.Common.{◌≡◌, take}
use Rattle.desk_law.specs.KindSet.{set_of}
use Rattle.desk_law.proofs.kind_set.KindSetFromRefSliceKind.from.Given as goal

abbrev pub invariant-loop-kind : goal.invariant-loop-kind
invariant-loop-kind l = l.set ≡ set_of (take l.kind-index l.kinds)
