use Rattle.std.proofs.Common.{◌≡◌, false, true, ◌∙◌, ap, arith, subst, sym, cond}
use Rattle.std.proofs.lemmas.List.Kept.{AllPairs-filter}
use Rattle.std.proofs.lemmas.Result.{IfOk-weaker}
use Rattle.desk_graph.specs.Graph.{is_line_between}
use Rattle.desk_graph.specs.Order.{has_mark}
use Rattle.desk_graph.specs.Reaches.{AreAffected, AreChildrenFirst}
use Rattle.desk_graph.proofs.Kept.{bill_falls, bill_swept}
use Rattle.desk_graph.proofs.Ordered.{marked_once, order_pairs, rank}
use Rattle.desk_graph.proofs.Reached.{marks_are}
use Rattle.desk_graph.proofs.bill.Bill.affected.Goals as goal

pub swept_nodes-requires-clause-order : goal.swept_nodes-requires-clause-order
swept_nodes-requires-clause-order c =
    let bill = c.self.inside in
    let kept = c.self.invariant in
    rw (c.as_they_are-users.ensures, c.as_slice.ensures.value, c.as_slice-2.ensures) (bill_swept bill.labels.items bill.lines.items bill.users.items bill.order kept.ends kept.order)

pub returns-clause-nodes : goal.returns-clause-nodes
returns-clause-nodes c =
    let bill = c.self.inside in
    let kept = c.self.invariant in
    let seeds = c.args.seeds.now in
    IfOk-weaker c.swept_nodes.result _ _ (λ nodes up.
    let met = rw (c.as_they_are-users.ensures, c.as_slice.ensures.value, c.as_slice-2.ensures) at up in
    subst (λ g. AreAffected g.lines seeds nodes.items) c.self.view_is
    (subst (AreAffected bill.lines.items seeds) (sym met.2)
    (λ node. marked_once met.0 bill.order kept.order.once (omega (arith, met.1.size, kept.ends.users_size, kept.order.size, kept.ends.lines_size)) node
    ∙ ap (λ b. cond b 1 0) (marks_are bill.lines.items (rank bill.order) (bill_falls bill.labels.items bill.lines.items bill.users.items bill.order kept.ends kept.order) seeds bill.users.items met.0 kept.ends.agree met.1 node)))) c.swept_nodes.ensures

pub returns-clause-children_first : goal.returns-clause-children_first
returns-clause-children_first c =
    let bill = c.self.inside in
    let kept = c.self.invariant in
    IfOk-weaker c.swept_nodes.result _ _ (λ nodes up.
    let met = rw (c.as_they_are-users.ensures, c.as_slice.ensures.value, c.as_slice-2.ensures) at up in
    subst (λ g. AreChildrenFirst g.lines nodes.items) c.self.view_is
    (subst (AreChildrenFirst bill.lines.items) (sym met.2)
    (AllPairs-filter (λ x y. is_line_between bill.lines.items x y ≡ false) (has_mark true met.0) bill.order (order_pairs bill.lines.items bill.order kept.order)))) c.swept_nodes.ensures
