-- Those of the numbers so far went in.
use Rattle.std.proofs.Common.{◌≤◌, ◌-◌}
use Rattle.desk_sample.specs.Sample.{assembly, each_to}
use Rattle.desk_sample.specs.Ticketed.{HasGainedAll}
use Rattle.desk_sample.proofs.sampling.push_assemblies.Given as goal

abbrev pub invariant-assemblies : goal.invariant-assemblies
invariant-assemblies l = HasGainedAll (each_to l.number (assembly l.n)) l.fn.edits.items l.edits.items × (l.number ≤ l.count)

abbrev pub decreases-assemblies : goal.decreases-assemblies
decreases-assemblies l = l.count - l.number
