use Rattle.std.proofs.Common.{◌≡◌, ◌≤◌, take, vec_len, vec_capacity}
use Rattle.desk_graph.proofs.node_order.copied_marks.Given as goal

abbrev pub invariant-loop-mark : goal.invariant-loop-mark
invariant-loop-mark l = (l.copy.items ≡ take l.mark-index l.marks) × (vec_len l.copy ≡ l.mark-index) × (24576 ≤ vec_capacity l.copy)
