use Rattle.std.proofs.Common.{◌≡◌, ◌≤◌, ◌++◌, drop, length, map, take}
use Rattle.desk_rollup.specs.Merge.{merged}
use Rattle.desk_rollup.proofs.merge.join_front.Given as goal

abbrev pub invariant-loop-place : goal.invariant-loop-place
invariant-loop-place g l =
    (l.place ≤ length l.held)
    × (merged g.E.Entry.number g.E.Entry.joined (map (g.E.Entry.lifted l.line) l.more) l.initial.held
    ≡ take l.place l.held ++ merged g.E.Entry.number g.E.Entry.joined (map (g.E.Entry.lifted l.line) (drop l.place l.more)) (drop l.place l.held))
