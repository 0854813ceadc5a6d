use Rattle.std.proofs.Common.{[], Some, sym, subst, arith}
use Rattle.desk_graph.specs.Plan.{IsLinePlan, Planned}
use Rattle.desk_graph.specs.Planned.{BillEdit, IsBillPlan}
use Rattle.desk_graph.proofs.ChangedLines.{planned_change}
use Rattle.desk_graph.proofs.Kept.{ends-with}
use Rattle.desk_graph.proofs.bill.Bill.plan_set.Goals as goal

-- the plan of a line as a plan of an edit
abbrev edit_of : Planned → BillEdit
edit_of plan = record { labels = []; line = Some (record { parent = plan.parent; child = plan.child; lines = plan.lines; users = plan.users }) }

pub returns-clause-plan : goal.returns-clause-plan
returns-clause-plan c =
    let bill = c.self.inside in
    let kept = c.self.invariant in
    let plan = c.in_ok-parent.field-0 in
    let good : IsLinePlan (record { labels = bill.labels.items; lines = bill.lines.items }) plan = subst (λ g. IsLinePlan g plan) (sym c.self.view_is) c.in_ok-parent.ensures.plan in
    let ends = ends-with bill.labels.items bill.lines.items bill.users.items kept.ends kept.unique plan.parent plan.child plan.count good.parent_there good.child_there plan.users good.new_users good.by_user in
    let change = planned_change bill.labels.items bill.lines.items bill.users.items plan good ends.by_label (omega (arith, good.parent_there, kept.ends.lines_size)) in
    let edit : IsBillPlan (record { labels = bill.labels.items; lines = bill.lines.items }) (edit_of plan) = record { line = change; free = tt; nodes_fit = omega (arith, kept.nodes_fit) } in
    rw c.of_line.ensures (subst (λ p. IsBillPlan c.args.self.now (edit_of p)) (sym c.parent.view_is) (subst (λ g. IsBillPlan g (edit_of plan)) c.self.view_is edit))
