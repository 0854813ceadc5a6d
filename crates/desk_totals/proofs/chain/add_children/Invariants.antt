use Rattle.std.proofs.Common.{◌≡◌, None, length}
use Rattle.desk_totals.specs.Next.{or_child}
use Rattle.desk_totals.proofs.Scatter.{part_round}
use Rattle.desk_totals.proofs.chain.add_children.Given as goal

abbrev pub invariant-loop-link : goal.invariant-loop-link
invariant-loop-link l =
    (length l.next ≡ length l.bill.nodes) × (l.next ≡ part_round or_child None l.bill.nodes l.link-items l.fn.next l.steps l.link-index)
