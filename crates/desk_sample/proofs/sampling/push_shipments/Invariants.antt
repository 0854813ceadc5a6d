-- Those of the numbers so far went in.
use Rattle.std.proofs.Common.{◌≤◌, ◌-◌}
use Rattle.desk_sample.specs.Sample.{shipment, each_to}
use Rattle.desk_sample.specs.Ticketed.{HasGainedAll}
use Rattle.desk_sample.proofs.sampling.push_shipments.Given as goal

abbrev pub invariant-shipments : goal.invariant-shipments
invariant-shipments l = HasGainedAll (each_to l.number shipment) l.fn.edits.items l.edits.items × (l.number ≤ l.count)

abbrev pub decreases-shipments : goal.decreases-shipments
decreases-shipments l = l.count - l.number
