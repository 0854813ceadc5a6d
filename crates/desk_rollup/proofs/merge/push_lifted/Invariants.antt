use Rattle.std.proofs.Common.{◌≡◌, ◌++◌, drop, map}
use Rattle.desk_rollup.proofs.merge.push_lifted.Given as goal

abbrev pub invariant-loop-entry : goal.invariant-loop-entry
invariant-loop-entry g l =
    l.into.items ++ map (g.E.Entry.lifted l.line) (drop l.entry-index l.entries)
    ≡ l.initial.into.items ++ map (g.E.Entry.lifted l.line) l.entries
