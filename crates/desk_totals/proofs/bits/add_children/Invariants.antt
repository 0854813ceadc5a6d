use Rattle.std.proofs.Common.{◌≡◌, length}
use Rattle.desk_totals.specs.Marks.{with_bits}
use Rattle.desk_totals.proofs.Scatter.{part_round}
use Rattle.desk_totals.proofs.bits.add_children.Given as goal

abbrev pub invariant-loop-link : goal.invariant-loop-link
invariant-loop-link l =
    (length l.next ≡ length l.bill.nodes) × (l.next ≡ part_round with_bits 0 l.bill.nodes l.link-items l.fn.next l.bits l.link-index)
