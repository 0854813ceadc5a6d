use Rattle.std.proofs.Common.{length, ap, arith}
use Rattle.desk_totals.proofs.Cycles.{acyclic_by_parts}
use Rattle.desk_totals.proofs.acyclic.first_on_cycle.Goals as goal

pub returns : goal.returns
returns c t of parents =
    acyclic_by_parts t c.args.bill.now of
    (λ place from within. c.loop-place.invariant t of parents place from (omega (arith, within, c.loop-place-test.false, ap length c.nodes-place-end.ensures.nodes)))
