-- Those of the numbers so far went in.
use Rattle.std.proofs.Common.{◌≤◌, ◌-◌}
use Rattle.desk_sample.specs.Sample.{article, each_to}
use Rattle.desk_sample.specs.Ticketed.{HasGainedAll}
use Rattle.desk_sample.proofs.sampling.push_articles.Given as goal

abbrev pub invariant-articles : goal.invariant-articles
invariant-articles l = HasGainedAll (each_to l.number (article l.n)) l.fn.edits.items l.edits.items × (l.number ≤ l.n)

abbrev pub decreases-articles : goal.decreases-articles
decreases-articles l = l.n - l.number
