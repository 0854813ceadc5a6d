use Rattle.std.proofs.Common.{◌≡◌, length}
use Rattle.desk_totals.specs.Marks.{with_bits}
use Rattle.desk_totals.specs.Rounds.{rounds}
use Rattle.desk_totals.proofs.bits.rounds_of_bits.Given as goal

abbrev pub invariant-loop-round : goal.invariant-loop-round
invariant-loop-round l =
    (length l.bits.items ≡ length l.bill.nodes) × (l.bits.items ≡ rounds with_bits 0 l.bill l.own l._round l.fn.first.items)
