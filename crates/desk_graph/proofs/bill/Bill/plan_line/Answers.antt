use Rattle.std.proofs.Common.{◌≡◌, false, ◌<◌, ◌∙◌, ap, arith, length, subst, sym}
use Rattle.desk_graph.specs.Graph.{has_line, lines_of_node}
use Rattle.desk_graph.specs.Edits.{with_line_of_node}
use Rattle.desk_graph.specs.Plan.{IsLinePlan}
use Rattle.desk_graph.specs.Reaches.{is_node_or_reaches}
use Rattle.desk_graph.proofs.Kept.{by_user-with, child_there, count-set, read_list, user_there, users-with}
use Rattle.desk_graph.proofs.bill.Bill.plan_line.Goals as goal

pub with-requires-clause-kept : goal.with-requires-clause-kept
with-requires-clause-kept c = λ node e.
    let bill = c.self.inside in
    let kept = c.self.invariant in
    let low = subst (λ g. c.args.parent < length g.labels) (sym c.self.view_is) c.requires.parent in
    let read = read_list bill.lines.items c.args.parent c.index-old.result.now (omega (arith, low, kept.ends.lines_size)) c.index-old.ensures in
    rw c.as_slice-labels.ensures.value (child_there bill.labels.items bill.lines.items bill.users.items kept.ends c.args.parent node (ap (λ l. has_line l node) (sym read) ∙ e))

pub with-requires-2-clause-kept : goal.with-requires-2-clause-kept
with-requires-2-clause-kept c = λ node e.
    let bill = c.self.inside in
    let kept = c.self.invariant in
    let there = subst (λ g. c.args.child < length g.labels) (sym c.self.view_is) c.requires.child in
    let read = read_list bill.users.items c.args.child c.index.result.now (omega (arith, there, kept.ends.users_size)) c.index.ensures in
    rw c.as_slice-labels.ensures.value (user_there bill.labels.items bill.lines.items bill.users.items kept.ends c.args.child node (ap (λ l. has_line l node) (sym read) ∙ e))

pub returns-clause-plan : goal.returns-clause-plan
returns-clause-plan c =
    let bill = c.self.inside in
    let kept = c.self.invariant in
    let low = subst (λ g. c.args.parent < length g.labels) (sym c.self.view_is) c.requires.parent in
    let there = subst (λ g. c.args.child < length g.labels) (sym c.self.view_is) c.requires.child in
    let opens = subst (λ g. is_node_or_reaches g.lines c.args.child c.args.parent ≡ false) (sym c.self.view_is) (c.in_ok-refuse_cycle.ensures.ok) in
    let read = read_list bill.lines.items c.args.parent c.index-old.result.now (omega (arith, low, kept.ends.lines_size)) c.index-old.ensures in
    let read_users = read_list bill.users.items c.args.child c.index.result.now (omega (arith, there, kept.ends.users_size)) c.index.ensures in
    let lines = c.in_ok-lines.ensures ∙ ap (λ l. with_line_of_node l (record { node = c.args.child; count = c.args.count }) c.index-old.result.now) c.as_slice-labels.ensures.value ∙ ap (with_line_of_node bill.labels.items (record { node = c.args.child; count = c.args.count })) read in
    let users = c.in_ok-users.ensures ∙ ap (λ l. with_line_of_node l (record { node = c.args.parent; count = c.args.count }) c.index.result.now) c.as_slice-labels.ensures.value ∙ ap (with_line_of_node bill.labels.items (record { node = c.args.parent; count = c.args.count })) read_users in
    subst (λ g. IsLinePlan g (record { parent = c.args.parent; child = c.args.child; count = c.args.count; lines = c.in_ok-lines.lines; users = c.in_ok-users.users })) c.self.view_is
    (record {
      parent_there = low;
      child_there = there;
      opens = opens;
      fits = omega (arith, count-set bill.lines.items c.args.parent (with_line_of_node bill.labels.items (record { node = c.args.child; count = c.args.count }) (lines_of_node bill.lines.items c.args.parent)) (omega (arith, low, kept.ends.lines_size)), ap (λ l. length l) (c.as_slice.ensures ∙ lines), ap (λ l. length l) (c.as_slice-2.ensures ∙ read), kept.count);
      new_lines = lines;
      new_users = rw users (users-with bill.labels.items bill.lines.items bill.users.items kept.ends kept.unique c.args.parent c.args.child c.args.count low there);
      by_user = rw users (by_user-with bill.labels.items bill.lines.items bill.users.items kept.ends kept.unique c.args.parent c.args.child c.args.count low there);
    })
