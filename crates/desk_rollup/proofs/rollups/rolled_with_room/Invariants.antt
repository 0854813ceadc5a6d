use Rattle.std.proofs.Common.{◌≡◌, ◌≤◌, length, take, vec_len, vec_capacity}
use Rattle.desk_rollup.proofs.rollups.rolled_with_room.Given as goal

abbrev pub invariant-loop-values : goal.invariant-loop-values
invariant-loop-values l = (l.copy.items ≡ take l.values-index l.rolled) × (vec_len l.copy ≡ l.values-index) × (24576 ≤ vec_capacity l.copy) × (length l.rolled ≤ vec_capacity l.copy)
