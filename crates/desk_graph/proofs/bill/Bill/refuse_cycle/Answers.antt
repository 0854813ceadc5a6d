use Rattle.std.proofs.Common.{◌≡◌, false, ◌<◌, arith, length, subst, sym}
use Rattle.desk_graph.specs.Order.{GoesByNext}
use Rattle.desk_graph.specs.Reaches.{is_node_or_reaches}
use Rattle.desk_graph.proofs.Kept.{bill_falls, child_there}
use Rattle.desk_graph.proofs.Ordered.{apart_before, rank}
use Rattle.desk_graph.proofs.Reached.{goes_by_next}
use Rattle.desk_graph.proofs.bill.Bill.refuse_cycle.Goals as goal

pub returns-then-stands_before-clause-ok : goal.returns-then-stands_before-clause-ok
returns-then-stands_before-clause-ok c =
    let bill = c.self.inside in
    let kept = c.self.invariant in
    let low = subst (λ g. c.args.parent < length g.labels) (sym c.self.view_is) c.requires.parent in
    let there = subst (λ g. c.args.child < length g.labels) (sym c.self.view_is) c.requires.child in
    subst (λ g. is_node_or_reaches g.lines c.args.child c.args.parent ≡ false) c.self.view_is
    (apart_before bill.lines.items bill.order kept.order (bill_falls bill.labels.items bill.lines.items bill.users.items bill.order kept.ends kept.order) c.args.parent c.args.child
    (omega (arith, low, kept.order.size, kept.ends.lines_size)) (omega (arith, there, kept.order.size, kept.ends.lines_size)) (c.stands_before.ensures c.if-stands_before.true))

pub chain_to-requires-clause-children : goal.chain_to-requires-clause-children
chain_to-requires-clause-children c =
    let bill = c.self.inside in
    let kept = c.self.invariant in
    rw c.as_slice.ensures.value (λ parent child e. omega (arith, child_there bill.labels.items bill.lines.items bill.users.items kept.ends parent child e, kept.ends.lines_size))

pub chain_to-requires-clause-steps : goal.chain_to-requires-clause-steps
chain_to-requires-clause-steps c =
    let bill = c.self.inside in
    let kept = c.self.invariant in
    subst (λ lines. GoesByNext lines c.args.parent) (sym c.as_slice.ensures.value)
    (goes_by_next bill.lines.items (rank bill.order) (bill_falls bill.labels.items bill.lines.items bill.users.items bill.order kept.ends kept.order) c.args.parent)
