-- What the shipments so far weigh.
use Rattle.std.proofs.Common.{◌≡◌, ◌*◌, take, sum_by}
use Rattle.desk_findings.specs.Mass.{mass}
use Rattle.desk_totals.specs.Fit.{fit}
use Rattle.desk_tables.proofs.table_lists.TableLists.mass_of_shipments.Given as goal

abbrev pub invariant-loop-shipment : goal.invariant-loop-shipment
invariant-loop-shipment l =
    l.total ≡ fit (sum_by (λ shipment. shipment.units * mass l.self shipment.product) (take l.shipment-index l.shipments))
