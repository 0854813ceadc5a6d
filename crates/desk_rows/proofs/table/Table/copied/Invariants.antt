use Rattle.std.proofs.Common.{◌≡◌, ◌≤◌, length, take, vec_len, vec_capacity}
use Rattle.desk_rows.proofs.table.Table.copied.Given as goal

abbrev pub invariant-loop-row : goal.invariant-loop-row
invariant-loop-row g l = (l.rows.items ≡ take l.row-index l.row-items) × (vec_len l.rows ≡ l.row-index) × (length l.row-items ≤ vec_capacity l.rows)
