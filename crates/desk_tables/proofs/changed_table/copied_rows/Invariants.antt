use Rattle.std.proofs.Common.{◌≡◌, ◌≤◌, length, take, vec_len, vec_capacity}
use Rattle.desk_tables.proofs.changed_table.copied_rows.Given as goal

abbrev pub invariant-loop-row : goal.invariant-loop-row
invariant-loop-row l = (l.copies.items ≡ take l.row-index l.rows) × (vec_len l.copies ≡ l.row-index) × (length l.rows ≤ vec_capacity l.copies)
