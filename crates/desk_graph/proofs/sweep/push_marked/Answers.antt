use Rattle.std.proofs.Common.{sym, ◌∙◌, arith}
use Rattle.desk_graph.specs.Order.{has_mark}
use Rattle.desk_graph.proofs.Marks.{counted_more, pushed_more, room_for_next}
use Rattle.desk_graph.proofs.sweep.push_marked.Goals as goal

pub push_if-requires : goal.push_if-requires
push_if-requires c = λ wanted.
    let room = room_for_next (has_mark c.args.wanted c.args.marks.now) c.args.order.now c.loop-node.node-index 0 (omega arith) (sym c.is_marked.ensures ∙ wanted) in
    omega (arith, room, c.requires.room, c.loop-node.invariant.1)

pub loop-node-preserved : goal.loop-node-preserved
loop-node-preserved c =
    let p = has_mark c.args.wanted c.args.marks.now in
    let count = counted_more p c.args.order.now c.loop-node.node-index 0 c.is_marked.result (omega arith) c.is_marked.ensures in (
      pushed_more p c.args.into.now.items c.loop-node.into.items c.args.order.now c.loop-node.node-index 0 c.is_marked.result _ (omega arith) c.is_marked.ensures c.push_if.ensures.nodes c.loop-node.invariant.0,
      c.push_if.ensures.len ∙ omega (arith, count, c.loop-node.invariant.1),
      omega (arith, c.push_if.ensures.capacity, c.loop-node.invariant.2),
    )
