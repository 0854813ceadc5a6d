use Rattle.std.proofs.Common.{Some, None, sym, ap, ◌∙◌, subst}
use Rattle.desk_graph.specs.Graph.{IsByLabel, lines_of_node}
use Rattle.desk_graph.specs.Planned.{IsBillPlan, changed_lines, graph_after}
use Rattle.desk_graph.proofs.ChangedLines.{planned_by_label, planned_lines_of}
use Rattle.desk_graph.proofs.bill.Bill.lines_after.Goals as goal

pub returns-in-Some-clause-lines : goal.returns-in-Some-clause-lines
returns-in-Some-clause-lines c =
    let line = c.in-Some.is in
    c.changed_or.ensures ∙ ap (λ l. lines_of_node (changed_lines (Some c.in-Some.change) l) c.args.id) (c.as_slice.ensures.value ∙ ap (λ g. g.lines) c.self.view_is)
    ∙ ap (λ o. lines_of_node (changed_lines o c.args.self.now.lines) c.args.id) (sym line ∙ ap (λ p. p.line) c.plan.view_is)
    ∙ sym (planned_lines_of c.args.plan.now c.args.self.now c.args.id)

pub returns-in-Some-clause-by_label : goal.returns-in-Some-clause-by_label
returns-in-Some-clause-by_label c =
    let bill = c.self.inside in
    let lines = c.changed_or.ensures ∙ ap (λ l. lines_of_node (changed_lines (Some c.in-Some.change) l) c.args.id) (c.as_slice.ensures.value ∙ ap (λ g. g.lines) c.self.view_is)
    ∙ ap (λ o. lines_of_node (changed_lines o c.args.self.now.lines) c.args.id) (sym c.in-Some.is ∙ ap (λ p. p.line) c.plan.view_is)
    ∙ sym (planned_lines_of c.args.plan.now c.args.self.now c.args.id) in
    let good : IsBillPlan (record { labels = bill.labels.items; lines = bill.lines.items }) c.args.plan.now = subst (λ g. IsBillPlan g c.args.plan.now) (sym c.self.view_is) c.requires.plan in
    let by_label = planned_by_label c.args.plan.now bill.labels.items bill.lines.items bill.users.items c.self.invariant.ends good c.args.id in
    subst (IsByLabel (graph_after c.args.plan.now c.args.self.now).labels) (sym lines) (subst (λ g. IsByLabel (graph_after c.args.plan.now g).labels (lines_of_node (graph_after c.args.plan.now g).lines c.args.id)) c.self.view_is by_label)

pub returns-in-None-clause-lines : goal.returns-in-None-clause-lines
returns-in-None-clause-lines c =
    c.list_or.ensures ∙ ap (λ l. lines_of_node (changed_lines None l) c.args.id) (c.as_slice-in-None.ensures.value ∙ ap (λ g. g.lines) c.self.view_is)
    ∙ ap (λ o. lines_of_node (changed_lines o c.args.self.now.lines) c.args.id) (sym c.in-None.is ∙ ap (λ p. p.line) c.plan.view_is)
    ∙ sym (planned_lines_of c.args.plan.now c.args.self.now c.args.id)

pub returns-in-None-clause-by_label : goal.returns-in-None-clause-by_label
returns-in-None-clause-by_label c =
    let bill = c.self.inside in
    let lines = c.list_or.ensures ∙ ap (λ l. lines_of_node (changed_lines None l) c.args.id) (c.as_slice-in-None.ensures.value ∙ ap (λ g. g.lines) c.self.view_is)
    ∙ ap (λ o. lines_of_node (changed_lines o c.args.self.now.lines) c.args.id) (sym c.in-None.is ∙ ap (λ p. p.line) c.plan.view_is)
    ∙ sym (planned_lines_of c.args.plan.now c.args.self.now c.args.id) in
    let good : IsBillPlan (record { labels = bill.labels.items; lines = bill.lines.items }) c.args.plan.now = subst (λ g. IsBillPlan g c.args.plan.now) (sym c.self.view_is) c.requires.plan in
    let by_label = planned_by_label c.args.plan.now bill.labels.items bill.lines.items bill.users.items c.self.invariant.ends good c.args.id in
    subst (IsByLabel (graph_after c.args.plan.now c.args.self.now).labels) (sym lines) (subst (λ g. IsByLabel (graph_after c.args.plan.now g).labels (lines_of_node (graph_after c.args.plan.now g).lines c.args.id)) c.self.view_is by_label)
