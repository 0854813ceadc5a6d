use Rattle.std.proofs.Common.{◌≡◌, true, count_by, arith}
use Rattle.desk_graph.specs.Order.{has_mark}
use Rattle.desk_graph.proofs.Marks.{count_both}
use Rattle.desk_graph.proofs.order_after.moved_behind.Goals as goal

pub push_marked-requires-2-clause-room : goal.push_marked-requires-2-clause-room
push_marked-requires-2-clause-room c =
    let both = count_both c.as_slice.result.now c.args.order.now in
    let same : count_by (has_mark true c.as_slice-2.result.now) c.args.order.now ≡ count_by (has_mark true c.as_slice.result.now) c.args.order.now = cc (c.as_slice.ensures.value, c.as_slice-2.ensures.value) in
    omega (arith, both, same, c.push_marked.ensures.len, c.push_marked.ensures.capacity, c.in_ok-new.ensures.exact, c.in_ok-new.ensures.len)

pub returns-clause-len : goal.returns-clause-len
returns-clause-len c =
    let both = count_both c.as_slice.result.now c.args.order.now in
    let same : count_by (has_mark true c.as_slice-2.result.now) c.args.order.now ≡ count_by (has_mark true c.as_slice.result.now) c.args.order.now = cc (c.as_slice.ensures.value, c.as_slice-2.ensures.value) in
    omega (arith, both, same, c.push_marked.ensures.len, c.push_marked-2.ensures.len, c.in_ok-new.ensures.len)
