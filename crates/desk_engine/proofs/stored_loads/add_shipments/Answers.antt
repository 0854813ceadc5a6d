use Rattle.std.proofs.Common.{◌≡◌, ◌+◌, ◌*◌, ◌∙◌, ap, arith, sym, sum_by, take}
use Rattle.std.proofs.lemmas.List.Sums.{sum_by_more, sum_by_more_le}
use Rattle.desk_graph.specs.Graph.{label_of}
use Rattle.desk_model.specs.declared.rows.shipment.ShipmentRow.{ShipmentRow}
use Rattle.desk_findings.specs.Carried.{carried}
use Rattle.desk_rollup.specs.Values.{amount_of}
use Rattle.desk_engine.proofs.Sums.{all_carried}
use Rattle.desk_engine.proofs.stored_loads.add_shipments.Goals as goal

pub add_loads-requires : goal.add_loads-requires
add_loads-requires c = λ place there.
    let t = c.args.tables.now.lists in
    let name = label_of c.args.stored.now.names place in
    let f = λ (shipment : ShipmentRow). shipment.units * carried t name shipment.product in
    let loads = c.as_slice.ensures.value ∙ ap (λ v. v.loads) c.values.view_is in
    let amount : amount_of c.as_slice.result.now place ≡ carried t name c.shipment-item.result.product =
    ap (λ list. amount_of list place) loads ∙ all_carried c.values_of-values.result.now.loads c.values_of-values.ensures.loads_rise place ∙ c.values_of-values.ensures.loads place in
    let here = ap f c.shipment-item.is in
    let product = ap (λ n. c.shipment-item.result.units * n) amount in
    omega (arith, product, here, c.loop-shipment.invariant.sums place (omega (arith, there, c.loop-shipment.invariant.size)), sum_by_more_le f c.args.shipments.now c.loop-shipment.shipment-index c.shipment-item.result c.loop-shipment-test.true, c.requires.light name)

pub loop-shipment-preserved : goal.loop-shipment-preserved
loop-shipment-preserved c = record {
  size = c.add_loads.ensures.size ∙ c.loop-shipment.invariant.size;
  sums = λ place low.
      let t = c.args.tables.now.lists in
      let name = label_of c.args.stored.now.names place in
      let f = λ (shipment : ShipmentRow). shipment.units * carried t name shipment.product in
      let loads = c.as_slice.ensures.value ∙ ap (λ v. v.loads) c.values.view_is in
      let amount : amount_of c.as_slice.result.now place ≡ carried t name c.shipment-item.result.product =
      ap (λ list. amount_of list place) loads ∙ all_carried c.values_of-values.result.now.loads c.values_of-values.ensures.loads_rise place ∙ c.values_of-values.ensures.loads place in
      c.add_loads.ensures.sums place (omega (arith, low, c.loop-shipment.invariant.size))
      ∙ ap (λ n. n + c.shipment-item.result.units * amount_of c.as_slice.result.now place) (c.loop-shipment.invariant.sums place low)
      ∙ ap (λ n. sum_by f (take c.loop-shipment.shipment-index c.args.shipments.now) + n) (ap (λ n. c.shipment-item.result.units * n) amount ∙ ap f c.shipment-item.is)
      ∙ sym (sum_by_more f c.args.shipments.now c.loop-shipment.shipment-index c.shipment-item.result c.loop-shipment-test.true);
}
