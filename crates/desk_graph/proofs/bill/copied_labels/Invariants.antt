use Rattle.std.proofs.Common.{◌≡◌, ◌≤◌, take, vec_len, vec_capacity}
use Rattle.desk_graph.proofs.bill.copied_labels.Given as goal

abbrev pub invariant-loop-label : goal.invariant-loop-label
invariant-loop-label l = (l.copy.items ≡ take l.label-index l.labels) × (vec_len l.copy ≡ l.label-index) × (24576 ≤ vec_capacity l.copy)
