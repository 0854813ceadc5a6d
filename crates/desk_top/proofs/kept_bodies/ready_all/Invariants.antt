use Rattle.std.proofs.Common.{◌≡◌, map, take}
use Rattle.desk_top.specs.KeptBodies.{ready}
use Rattle.desk_top.proofs.kept_bodies.ready_all.Given as goal

abbrev pub invariant-loop-change : goal.invariant-loop-change
invariant-loop-change l = l.changes.items ≡ map ready (take l.change-index l.batch)
