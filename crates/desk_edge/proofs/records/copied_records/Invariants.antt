use Rattle.std.proofs.Common.{◌≡◌, ◌≤◌, length, take, vec_len, vec_capacity}
use Rattle.desk_edge.proofs.records.copied_records.Given as goal

abbrev pub invariant-loop-record : goal.invariant-loop-record
invariant-loop-record l = (l.copy.items ≡ take l.record-index l.records) × (vec_len l.copy ≡ l.record-index) × (length l.records ≤ vec_capacity l.copy)
