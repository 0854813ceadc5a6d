use Rattle.std.proofs.Common.{◌≡◌, ◌≤◌, count_by, take}
use Rattle.desk_totals.specs.Marks.{has_bit}
use Rattle.desk_totals.proofs.counts.count_bit.Given as goal

abbrev pub invariant-loop-bits : goal.invariant-loop-bits
invariant-loop-bits l = (l.count ≤ l.bits-index) × (l.count ≡ count_by (has_bit l.bit) (take l.bits-index l.bits))
