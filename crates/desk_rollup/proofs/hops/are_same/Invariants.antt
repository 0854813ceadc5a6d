use Rattle.std.proofs.Common.{◌≡◌, take}
use Rattle.desk_rollup.proofs.hops.are_same.Given as goal

abbrev pub invariant-loop-place : goal.invariant-loop-place
invariant-loop-place l = take l.place l.first ≡ take l.place l.second
