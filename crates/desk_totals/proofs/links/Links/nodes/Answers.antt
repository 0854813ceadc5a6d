use Rattle.std.proofs.Common.{subst}
use Rattle.desk_totals.proofs.Distinct.{linked_from_kept}
use Rattle.desk_totals.specs.Linked.{IsLinked}
use Rattle.desk_totals.proofs.links.Links.nodes.Goals as goal

pub returns-clause-linked : goal.returns-clause-linked
returns-clause-linked c = subst IsLinked c.self.view_is (linked_from_kept c.self.inside.nodes.items c.self.inside.material_count c.self.inside.links.items c.self.invariant)
