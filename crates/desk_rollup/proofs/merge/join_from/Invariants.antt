use Rattle.std.proofs.Common.{◌≡◌, ◌≤◌, ◌++◌, drop, length, map, take}
use Rattle.desk_rollup.specs.Merge.{merged}
use Rattle.desk_rollup.proofs.merge.join_from.Given as goal

abbrev pub invariant-loop-place : goal.invariant-loop-place
invariant-loop-place g l =
    (l.at ≤ length l.held)
    × (take l.from l.initial.held ++ merged g.E.Entry.number g.E.Entry.joined (map (g.E.Entry.lifted l.line) (drop l.from l.more)) (drop l.from l.initial.held)
    ≡ take l.at l.held ++ merged g.E.Entry.number g.E.Entry.joined (map (g.E.Entry.lifted l.line) (drop l.place l.more)) (drop l.at l.held))
