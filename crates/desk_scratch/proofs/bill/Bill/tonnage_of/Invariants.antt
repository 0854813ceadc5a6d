-- The sum of the first shipments.
use Rattle.std.proofs.Common.{◌≡◌, ◌*◌, ℕ, List, map, sum_by, take}
use Rattle.desk_findings.specs.Carried.{carried}
use Rattle.desk_totals.specs.Fit.{fit}
use Rattle.desk_model.specs.Lists.{nodes_of}
use Rattle.desk_scratch.proofs.bill.Bill.tonnage_of.Given as goal

abbrev pub invariant-loop-shipment : goal.invariant-loop-shipment
invariant-loop-shipment l =
    (substance : List ℕ) → l.loads ≡ map (λ code. fit (carried l.self substance code)) (nodes_of l.self)
    → l.sum ≡ sum_by (λ shipment. shipment.units * carried l.self substance shipment.product) (take l.shipment-index l.shipments)
