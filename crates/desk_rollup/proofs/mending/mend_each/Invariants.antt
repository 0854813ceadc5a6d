use Rattle.std.proofs.Common.{◌≡◌, true, take}
use Rattle.desk_rollup.specs.Changed.{IsMended}
use Rattle.desk_rollup.specs.Places.{known, place_at}
use Rattle.desk_rollup.proofs.mending.mend_each.Given as goal

abbrev pub invariant-loop-mark : goal.invariant-loop-mark
invariant-loop-mark l =
    (IsMended (λ child. known (place_at l.values.places.now child) l.values.kept.now l.values.new.now child) l.own l.lines (take l.mark-index l.changed) l.initial.hops.items l.hops.items)
    × (l.is_same ≡ true → l.hops.items ≡ l.initial.hops.items)
