use Rattle.std.proofs.Common.{subst, arith}
use Rattle.desk_graph.specs.Bill.{IsBillGraph}
use Rattle.desk_graph.proofs.Kept.{is_bill}
use Rattle.desk_graph.proofs.bill.Bill.node_count.Goals as goal

pub returns-clause-bill : goal.returns-clause-bill
returns-clause-bill c =
    let kept = c.self.invariant in
    subst IsBillGraph c.self.view_is
    (is_bill c.self.inside.labels.items c.self.inside.lines.items c.self.inside.users.items c.self.inside.order kept.ends kept.unique kept.order kept.nodes_fit (omega (arith, kept.count, kept.lines_fit)))
