use Rattle.std.proofs.Common.{[], length, sym, ap, subst, arith}
use Rattle.desk_graph.specs.Bill.{IsBillGraph}
use Rattle.desk_graph.specs.Planned.{IsBillPlan, graph_after}
use Rattle.desk_graph.proofs.AfterPlans.{count_after}
use Rattle.desk_graph.proofs.StaysBill.{bill_after}
use Rattle.desk_graph.proofs.bill.Bill.node_count_after.Goals as goal

pub returns-clause-bill : goal.returns-clause-bill
returns-clause-bill c =
    let bill = c.self.inside in
    let kept = c.self.invariant in
    let edit = c.args.plan.now in
    let good : IsBillPlan (record { labels = bill.labels.items; lines = bill.lines.items }) edit = subst (λ g. IsBillPlan g edit) (sym c.self.view_is) c.requires.plan in
    subst (λ g. IsBillGraph (graph_after edit g)) c.self.view_is
    (bill_after bill.labels.items bill.lines.items bill.users.items bill.order edit kept.ends kept.unique kept.order (omega (arith, kept.count, kept.lines_fit)) good)

pub returns-clause-count : goal.returns-clause-count
returns-clause-count c =
    omega (arith, count_after c.args.plan.now c.args.self.now [], c.len.ensures, c.len-2.ensures, ap (λ g. length g.labels) c.self.view_is, ap (λ p. length p.labels) c.plan.view_is)
