use Rattle.std.proofs.Common.{◌+◌, ◌*◌, arith, subst}
use Rattle.desk_model.specs.declared.edit.Edit.TheVariants.{Ship}
use Rattle.desk_sample.specs.Sample.{shipment}
use Rattle.desk_sample.specs.Ticketed.{HasGained}
use Rattle.desk_sample.proofs.Gained.{gained_next, gained_none}
use Rattle.desk_sample.proofs.sampling.push_shipments.Goals as goal

pub shipments-init : goal.shipments-init
shipments-init c = (gained_none _, omega arith)

pub shipments-preserved : goal.shipments-preserved
shipments-preserved c =
    let next = subst (λ code. HasGained (λ t. Ship t code 2024 (1000 * (c.shipments.number + 1))) c.shipments.edits.items c.push_ship.new.edits.items) c.numbered.ensures c.in_ok-push_ship.ensures in
    (gained_next c.shipments.number shipment _ _ _ c.shipments.invariant.0 next, omega (arith, c.shipments-test.true))
