use Rattle.std.proofs.Common.{◌≡◌, ◌≤◌, take, vec_len, vec_capacity}
use Rattle.desk_graph.proofs.bill.copied_lists.Given as goal

abbrev pub invariant-loop-list : goal.invariant-loop-list
invariant-loop-list l = (l.copy.items ≡ take l.list-index l.lists) × (vec_len l.copy ≡ l.list-index) × (24576 ≤ vec_capacity l.copy)
