-- Each list begins with itself.
use Rattle.desk_publish.proofs.Prefixes.{prefix_self}
use Rattle.desk_publish.proofs.journal.Journal.settle.Goals as goal

pub invariant_of-self : goal.invariant_of-self
invariant_of-self g c = rw c.again.ensures (prefix_self c.self.inside.whole)
