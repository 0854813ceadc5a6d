use Rattle.std.proofs.Common.{◌≡◌, ◌++◌, List, drop}
use Rattle.desk_rollup.specs.Merge.{merged_in}
use Rattle.desk_rollup.proofs.merge.push_below.Given as goal

abbrev pub invariant-loop-at : goal.invariant-loop-at
invariant-loop-at g l =
    (go : List g.row.E.Denot → List g.row.E.Denot) → l.initial.into.items ++ merged_in g.E.Entry.number g.E.Entry.joined l.entry go (drop l.from l.held) ≡ l.into.items ++ merged_in g.E.Entry.number g.E.Entry.joined l.entry go (drop l.at l.held)
