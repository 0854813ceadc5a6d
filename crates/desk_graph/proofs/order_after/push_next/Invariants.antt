use Rattle.std.proofs.Common.{◌≡◌, ◌+◌, ◌-◌, ◌≤◌, vec_len, vec_capacity}
use Rattle.desk_graph.specs.Planned.{with_next}
use Rattle.desk_graph.proofs.order_after.push_next.Given as goal

abbrev pub invariant-loop : goal.invariant-loop
invariant-loop l =
    (with_next (l.more - l.counter) l.order.items ≡ with_next l.more l.fn.order.items) ×
    (vec_len l.order ≡ vec_len l.fn.order + l.counter) ×
    (vec_capacity l.fn.order ≤ vec_capacity l.order) ×
    (l.counter ≤ l.more)
