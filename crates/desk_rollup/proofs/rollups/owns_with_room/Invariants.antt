use Rattle.std.proofs.Common.{◌≡◌, ◌≤◌, length, take, vec_len, vec_capacity}
use Rattle.desk_rollup.proofs.rollups.owns_with_room.Given as goal

abbrev pub invariant-loop-own : goal.invariant-loop-own
invariant-loop-own l = (l.copy.items ≡ take l.own-index l.owns) × (vec_len l.copy ≡ l.own-index) × (24576 ≤ vec_capacity l.copy) × (length l.owns ≤ vec_capacity l.copy)
