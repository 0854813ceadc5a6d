use Rattle.std.proofs.Common.{◌≡◌, ◌≤◌, ◌++◌, drop, length, map}
use Rattle.desk_rollup.specs.Merge.{merged}
use Rattle.desk_rollup.proofs.merge.merge_lifted.Given as goal

abbrev pub invariant-loop-entry : goal.invariant-loop-entry
invariant-loop-entry g l =
    (l.at ≤ length l.held)
    × (l.into.items ++ merged g.E.Entry.number g.E.Entry.joined (map (g.E.Entry.lifted l.line) (drop l.entry-index l.more)) (drop l.at l.held)
    ≡ l.initial.into.items ++ merged g.E.Entry.number g.E.Entry.joined (map (g.E.Entry.lifted l.line) l.more) l.held)
