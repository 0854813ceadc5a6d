use Rattle.std.proofs.Common.{◌≡◌, ◌++◌, drop, map}
use Rattle.desk_findings.specs.Mass.{mass}
use Rattle.desk_bridge.specs.Years.{entries_of, shipment_entry}
use Rattle.desk_engine.proofs.start.entries_of.Given as goal

abbrev pub invariant-loop-shipment : goal.invariant-loop-shipment
invariant-loop-shipment g l = l.entries.items ++ map (shipment_entry (mass l.tables.lists)) (drop l.shipment-index l.shipments) ≡ entries_of l.tables.lists
