-- Those of the numbers so far went in.
use Rattle.std.proofs.Common.{◌≤◌, ◌-◌}
use Rattle.desk_sample.specs.Sample.{product, each_to}
use Rattle.desk_sample.specs.Ticketed.{HasGainedAll}
use Rattle.desk_sample.proofs.sampling.push_products.Given as goal

abbrev pub invariant-products : goal.invariant-products
invariant-products l = HasGainedAll (each_to l.number product) l.fn.edits.items l.edits.items × (l.number ≤ l.count)

abbrev pub decreases-products : goal.decreases-products
decreases-products l = l.count - l.number
