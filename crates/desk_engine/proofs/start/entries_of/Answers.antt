use Rattle.std.proofs.Common.{◌≡◌, ◌∙◌, ap, arith, get_or, length, subst, sym, true}
use Rattle.desk_model.specs.Lists.{is_kept}
use Rattle.desk_engine.proofs.Starts.{shipment_kept}
use Rattle.desk_engine.proofs.start.entries_of.Goals as goal

pub mass_of-mass-requires-clause-kept : goal.mass_of-mass-requires-clause-kept
mass_of-mass-requires-clause-kept g c =
    let read = c.shipment-item.is ∙ ap (λ rows. get_or rows c.loop-shipment.shipment-index c.shipment-item.result) c.shipments-shipments.ensures in
    subst (λ row. is_kept c.args.tables.now.lists row.product ≡ true) (sym read)
    (shipment_kept c.args.tables.now.lists c.requires.sound.consistent c.loop-shipment.shipment-index c.shipment-item.result (omega (arith, c.loop-shipment-test.true, ap length c.shipments-shipments.ensures)))
