use Rattle.std.proofs.Common.{◌*◌, ◌∙◌, ap, sym, sum_by, take}
use Rattle.desk_findings.specs.Mass.{mass}
use Rattle.desk_totals.specs.Fit.{fit, fit_with}
use Rattle.desk_tables.proofs.HeavyYears.{with_shipment}
use Rattle.desk_tables.proofs.table_lists.TableLists.mass_of_shipments.Goals as goal

pub loop-shipment-preserved : goal.loop-shipment-preserved
loop-shipment-preserved c =
    let t = c.args.self.now in
    let shipments = c.args.shipments.now in
    let item = c.shipment-item.result in
    let i = c.loop-shipment.shipment-index in
    c.with_units-total.ensures
    ∙ ap (λ total. fit_with total item.units c.mass_of_part.result) c.loop-shipment.invariant
    ∙ ap (fit_with (fit (sum_by (λ shipment. shipment.units * mass t shipment.product) (take i shipments))) item.units) c.mass_of_part.ensures
    ∙ with_shipment (λ shipment. shipment.units * mass t shipment.product) item.units (mass t item.product) shipments i item c.loop-shipment-test.true
    (sym (ap (λ shipment. shipment.units * mass t shipment.product) c.shipment-item.is))
