use Rattle.std.proofs.Common.{◌≡◌, ◌≤◌, length, take, vec_len, vec_capacity}
use Rattle.desk_edge.proofs.records.copied_all.Given as goal

abbrev pub invariant-loop-change : goal.invariant-loop-change
invariant-loop-change l = (l.copy.items ≡ take l.change-index l.batch) × (vec_len l.copy ≡ l.change-index) × (length l.batch ≤ vec_capacity l.copy)
