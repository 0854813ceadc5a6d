use Rattle.std.proofs.Common.{◌≡◌, ◌+◌, ◌<◌, ◌∷◌, [], ◌++◌, false, length, sym, ap, ◌∙◌, subst, arith}
use Rattle.std.proofs.lemmas.List.{length_push}
use Rattle.desk_graph.specs.Edits.{is_taken}
use Rattle.desk_graph.specs.Planned.{IsBillPlan, changed_lines, graph_after}
use Rattle.desk_graph.proofs.AfterPlans.{count_after, labels_are}
use Rattle.desk_graph.proofs.ChangedLines.{free-push, with_labels-is, with_nodes-push}
use Rattle.desk_graph.proofs.bill.Bill.plan_new_node.Goals as goal

pub returns-clause-answer : goal.returns-clause-answer
returns-clause-answer c =
    omega (arith, count_after c.args.plan.now c.args.self.now c.args.label.now, c.len.ensures, c.len-2.ensures, ap (λ g. length g.labels) c.self.view_is, ap (λ e. length e.labels) c.plan.view_is)

pub returns-clause-bill : goal.returns-clause-bill
returns-clause-bill c =
    let edit = c.args.plan.now in
    let g = c.args.self.now in
    let label = c.args.label.now in
    let labels : c.push.new.self.items ≡ edit.labels ++ label ∷ [] = c.in_ok-push.ensures.items ∙ ap (λ l. l ++ c.new.result ∷ []) (ap (λ e. e.labels) c.plan.view_is) ∙ ap (λ x. edit.labels ++ x ∷ []) c.new.ensures in
    let line = ap (λ e. e.line) c.plan.view_is in
    ap (λ ls. graph_after (record { labels = ls; line = c.plan.inside.line }) g) labels ∙ ap (λ l. graph_after (record { labels = edit.labels ++ label ∷ []; line = l }) g) line
    ∙ with_nodes-push edit.labels label (record { labels = g.labels; lines = changed_lines edit.line g.lines })

pub returns-clause-plan : goal.returns-clause-plan
returns-clause-plan c =
    let edit = c.args.plan.now in
    let g = c.args.self.now in
    let label = c.args.label.now in
    let labels : c.push.new.self.items ≡ edit.labels ++ label ∷ [] = c.in_ok-push.ensures.items ∙ ap (λ l. l ++ c.new.result ∷ []) (ap (λ e. e.labels) c.plan.view_is) ∙ ap (λ x. edit.labels ++ x ∷ []) c.new.ensures in
    let line = ap (λ e. e.line) c.plan.view_is in
    let none : is_taken (g.labels ++ edit.labels) label ≡ false = ap (λ l. is_taken l label) (sym (labels_are edit g label ∙ with_labels-is edit.labels g.labels)) ∙ c.requires.free in
    let fits : length g.labels + length edit.labels < 24576 = omega (arith, c.requires.room, count_after edit g label) in
    let more : IsBillPlan g (record { labels = edit.labels ++ label ∷ []; line = edit.line }) = record {
      line = c.requires.plan.line;
      free = free-push edit.labels g.labels label c.requires.plan.free none;
      nodes_fit = omega (arith, fits, length_push edit.labels label);
    } in
    subst (λ ls. IsBillPlan g (record { labels = ls; line = c.plan.inside.line })) (sym labels) (subst (λ l. IsBillPlan g (record { labels = edit.labels ++ label ∷ []; line = l })) (sym line) more)
