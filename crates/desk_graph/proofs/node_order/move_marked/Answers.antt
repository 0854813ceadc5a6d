use Rattle.std.proofs.Common.{arith}
use Rattle.desk_graph.proofs.Marks.{count_both}
use Rattle.desk_graph.proofs.node_order.move_marked.Goals as goal

pub push_marked-requires-2-clause-room : goal.push_marked-requires-2-clause-room
push_marked-requires-2-clause-room c =
    let both = count_both c.args.marks.now c.args.nodes.now.items in
    let len = rw c.as_slice.ensures.value at c.push_marked.ensures.len in
    rw c.as_slice-2.ensures.value (omega (arith, both, len, c.requires.room))
