use Rattle.std.proofs.Common.{◌≡◌, ◌+◌, ◌*◌, ◌∙◌, refl, sym, ap, sum_by, take, arith}
use Rattle.std.proofs.lemmas.List.Sums.{sum_by_more, sum_by_more_le}
use Rattle.desk_model.specs.declared.rows.shipment.ShipmentRow.{ShipmentRow}
use Rattle.desk_findings.specs.Carried.{carried}
use Rattle.desk_tables.proofs.Taken.{take_whole}
use Rattle.desk_scratch.proofs.bill.Bill.tonnage_of.Goals as goal

pub overflow_add-sum : goal.overflow_add-sum
overflow_add-sum c =
    let t = c.args.self.now in
    let substance = c.requires.loads.0 in
    let load = c.load.ensures substance c.requires.loads.1 in
    let f = λ (shipment : ShipmentRow). shipment.units * carried t substance shipment.product in
    let so_far = c.loop-shipment.invariant substance c.requires.loads.1 in
    let here = ap f c.shipment-item.is in
    let product : c.from.result * c.load.result ≡ f c.shipment-item.result = rw (c.from.ensures, load) refl in
    omega (arith, so_far, here, product, sum_by_more_le f c.args.shipments.now c.loop-shipment.shipment-index c.shipment-item.result c.loop-shipment-test.true, c.requires.loads.2)

pub loop-shipment-preserved : goal.loop-shipment-preserved
loop-shipment-preserved c = λ substance are.
    let t = c.args.self.now in
    let f = λ (shipment : ShipmentRow). shipment.units * carried t substance shipment.product in
    let product : c.from.result * c.load.result ≡ f c.shipment-item.result = rw (c.from.ensures, c.load.ensures substance are) refl in
    ap (λ n. n + c.from.result * c.load.result) (c.loop-shipment.invariant substance are)
    ∙ ap (λ n. sum_by f (take c.loop-shipment.shipment-index c.args.shipments.now) + n) (product ∙ ap f c.shipment-item.is)
    ∙ sym (sum_by_more f c.args.shipments.now c.loop-shipment.shipment-index c.shipment-item.result c.loop-shipment-test.true)

pub returns : goal.returns
returns c = λ substance are.
    c.loop-shipment.invariant substance are
    ∙ ap (sum_by (λ shipment. shipment.units * carried c.args.self.now substance shipment.product)) (take_whole c.args.shipments.now c.loop-shipment.shipment-index c.loop-shipment-test.false)
