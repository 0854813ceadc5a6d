use Rattle.std.proofs.Common.{◌∙◌, ap, arith}
use Rattle.std.proofs.lemmas.List.{take_at}
use Rattle.desk_graph.specs.Order.{mark_of}
use Rattle.desk_graph.specs.Reaches.{is_node_affected}
use Rattle.desk_graph.proofs.Kept.{bill_falls, bill_swept}
use Rattle.desk_graph.proofs.Ordered.{rank}
use Rattle.desk_graph.proofs.Reached.{marks_are}
use Rattle.desk_graph.proofs.bill.Bill.marks_from.Goals as goal

pub mark_from-requires-clause-order : goal.mark_from-requires-clause-order
mark_from-requires-clause-order c =
    let bill = c.self.inside in
    let kept = c.self.invariant in
    rw (c.as_they_are.ensures, c.as_slice-2.ensures.value, c.as_slice.ensures) (bill_swept bill.labels.items bill.lines.items bill.users.items bill.order kept.ends kept.order)

pub returns-clause-marks : goal.returns-clause-marks
returns-clause-marks c = λ node.
    let bill = c.self.inside in
    let kept = c.self.invariant in
    let up = rw (c.as_they_are.ensures, c.as_slice-2.ensures.value) at c.mark_from.ensures.up in
    ap (λ m. mark_of m node) (take_at c.mark_from.new.marks _ _ (omega (arith, c.mark_from.ensures.up.size)))
    ∙ marks_are bill.lines.items (rank bill.order) (bill_falls bill.labels.items bill.lines.items bill.users.items bill.order kept.ends kept.order) c.args.seeds.now bill.users.items c.mark_from.new.marks kept.ends.agree up node
    ∙ ap (λ g. is_node_affected g.lines c.args.seeds.now node) c.self.view_is
