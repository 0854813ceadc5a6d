use Rattle.std.proofs.Common.{◌≡◌, None, length}
use Rattle.desk_totals.specs.Fit.{fit_with}
use Rattle.desk_totals.proofs.Scatter.{part_round}
use Rattle.desk_totals.proofs.amounts.add_children.Given as goal

abbrev pub invariant-loop-link : goal.invariant-loop-link
invariant-loop-link l =
    (length l.next ≡ length l.bill.nodes) × (l.next ≡ part_round fit_with None l.bill.nodes l.link-items l.fn.next l.amounts l.link-index)
