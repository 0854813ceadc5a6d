use Rattle.std.proofs.Common.{[], None, subst, arith}
use Rattle.desk_graph.specs.Planned.{IsBillPlan}
use Rattle.desk_graph.proofs.bill.Bill.plan_nothing.Goals as goal

pub returns-clause-plan : goal.returns-clause-plan
returns-clause-plan c =
    rw c.of_line.ensures (subst (λ g. IsBillPlan g (record { labels = []; line = None })) c.self.view_is (record { line = tt; free = tt; nodes_fit = omega (arith, c.self.invariant.nodes_fit) }))
