use Rattle.std.proofs.Common.{◌≡◌, take}
use Rattle.desk_rollup.specs.Gathered.{with_each}
use Rattle.desk_rollup.proofs.roller.add_each.Given as goal

abbrev pub invariant-loop-entry : goal.invariant-loop-entry
invariant-loop-entry g l = l.into ≡ with_each g.E.Entry.number g.E.Entry.joined (take l.entry-index l.entries) l.initial.into
