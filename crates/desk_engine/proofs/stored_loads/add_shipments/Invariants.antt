-- The sums of the first shipments.
use Rattle.std.proofs.Common.{◌≡◌, ◌*◌, length, sum_by, take}
use Rattle.desk_findings.specs.Carried.{carried}
use Rattle.desk_engine.specs.Answers.{AreSumsOf}
use Rattle.desk_engine.proofs.stored_loads.add_shipments.Given as goal

abbrev pub invariant-loop-shipment : goal.invariant-loop-shipment
invariant-loop-shipment l = record {
  size : length l.sums ≡ length l.stored.names;
  sums : AreSumsOf (λ substance. sum_by (λ shipment. shipment.units * carried l.tables.lists substance shipment.product) (take l.shipment-index l.shipments)) l.stored.names l.sums;
}
