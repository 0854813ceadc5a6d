use Rattle.std.proofs.Common.{◌≡◌, map, take}
use Rattle.desk_rollup.specs.Gathered.{own_hop, with_each}
use Rattle.desk_rollup.specs.Numbers.{mark_number}
use Rattle.desk_rollup.proofs.roller.add_marks.Given as goal

abbrev pub invariant-loop-mark : goal.invariant-loop-mark
invariant-loop-mark l = l.into ≡ with_each (λ hop. mark_number hop.mark) (λ held more. held) (map own_hop (take l.mark-index l.marks)) l.initial.into
