use Rattle.std.proofs.Common.{◌≡◌, ◌≤◌, take, vec_len, vec_capacity}
use Rattle.desk_graph.proofs.node_order.copied_numbers.Given as goal

abbrev pub invariant-loop-number : goal.invariant-loop-number
invariant-loop-number l = (l.copy.items ≡ take l.number-index l.numbers) × (vec_len l.copy ≡ l.number-index) × (24576 ≤ vec_capacity l.copy)
