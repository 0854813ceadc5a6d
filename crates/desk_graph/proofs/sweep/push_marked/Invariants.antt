use Rattle.std.proofs.Common.{◌≡◌, ◌+◌, ◌≤◌, ◌++◌, filter, count_by, take, vec_len, vec_capacity}
use Rattle.desk_graph.specs.Order.{has_mark}
use Rattle.desk_graph.proofs.sweep.push_marked.Given as goal

abbrev pub invariant-loop-node : goal.invariant-loop-node
invariant-loop-node l =
    (l.into.items ≡ l.fn.into.items ++ filter (has_mark l.wanted l.marks) (take l.node-index l.order)) ×
    (vec_len l.into ≡ vec_len l.fn.into + count_by (has_mark l.wanted l.marks) (take l.node-index l.order)) ×
    (vec_capacity l.fn.into ≤ vec_capacity l.into)
