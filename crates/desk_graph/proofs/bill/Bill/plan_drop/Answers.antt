use Rattle.std.proofs.Common.{◌≡◌, ◌<◌, true, false, [], Some, None, length, sym, ap, ◌∙◌, subst, arith}
use Rattle.desk_graph.specs.Edits.{without_line_of_node, without_line_in}
use Rattle.desk_graph.specs.Graph.{has_line, is_line_between, lines_of_node}
use Rattle.desk_graph.specs.Planned.{BillEdit, IsBillPlan, graph_after}
use Rattle.desk_graph.proofs.ChangedLines.{dropped_change, nothing_dropped}
use Rattle.desk_graph.proofs.Kept.{bill_falls, read_list}
use Rattle.desk_graph.proofs.Ordered.{rank}
use Rattle.desk_graph.proofs.bill.Bill.plan_drop.Goals as goal

pub returns-then-not-has_line_to-clause-bill : goal.returns-then-not-has_line_to-clause-bill
returns-then-not-has_line_to-clause-bill c =
    let bill = c.self.inside in
    let kept = c.self.invariant in
    let low = subst (λ g. c.args.parent < length g.labels) (sym c.self.view_is) c.requires.parent in
    let read = read_list bill.lines.items c.args.parent c.index-lines.result.now (omega (arith, low, kept.ends.lines_size)) c.index-lines.ensures in
    let none : is_line_between bill.lines.items c.args.parent c.args.child ≡ false = ap (λ l. has_line l c.args.child) (sym (c.as_slice.ensures ∙ read)) ∙ sym c.has_line_to.ensures ∙ c.if-not-has_line_to.true in
    ap (λ e. graph_after e c.args.self.now) c.of_line.ensures
    ∙ subst (λ g. graph_after (record { labels = []; line = None }) g ≡ without_line_in c.args.parent c.args.child g) c.self.view_is
    (ap (λ l. record { labels = bill.labels.items; lines = l }) (nothing_dropped bill.lines.items c.args.parent c.args.child none))

pub returns-clause-plan : goal.returns-clause-plan
returns-clause-plan c =
    let bill = c.self.inside in
    let kept = c.self.invariant in
    let parent = c.args.parent in
    let child = c.args.child in
    let low = subst (λ g. parent < length g.labels) (sym c.self.view_is) c.requires.parent in
    let there = subst (λ g. child < length g.labels) (sym c.self.view_is) c.requires.child in
    let read = read_list bill.lines.items parent c.index-lines.result.now (omega (arith, low, kept.ends.lines_size)) c.index-lines.ensures in
    let read_users = read_list bill.users.items child c.index.result.now (omega (arith, there, kept.ends.users_size)) c.index.ensures in
    let line : is_line_between bill.lines.items parent child ≡ true = ap (λ l. has_line l child) (sym (c.as_slice.ensures ∙ read)) ∙ sym c.has_line_to.ensures ∙ c.if-not-has_line_to.false in
    let lines : c.in_ok-without.field-0 ≡ without_line_of_node child (lines_of_node bill.lines.items parent) = c.in_ok-without.ensures ∙ ap (without_line_of_node child) read in
    let users : c.in_ok-without-2.field-0 ≡ without_line_of_node parent (lines_of_node bill.users.items child) = c.in_ok-without-2.ensures ∙ ap (without_line_of_node parent) read_users in
    let change = dropped_change bill.labels.items bill.lines.items bill.users.items (rank bill.order) parent child kept.ends (bill_falls bill.labels.items bill.lines.items bill.users.items bill.order kept.ends kept.order) (omega (arith, kept.count, kept.lines_fit)) low there line in
    let edit : BillEdit = record { labels = []; line = Some (record { parent = parent; child = child; lines = without_line_of_node child (lines_of_node bill.lines.items parent); users = without_line_of_node parent (lines_of_node bill.users.items child) }) } in
    let plan : IsBillPlan (record { labels = bill.labels.items; lines = bill.lines.items }) edit =
    record { line = change; free = tt; nodes_fit = omega (arith, kept.nodes_fit) } in
    rw (c.of_line-2.ensures, lines, users) (subst (λ g. IsBillPlan g edit) c.self.view_is plan)
