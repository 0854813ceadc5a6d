use Rattle.std.proofs.Common.{◌≡◌, ◌+◌, ◌≤◌, length, sum_by, take}
use Rattle.desk_tables.proofs.PutCounts.{is_new}
use Rattle.desk_tables.proofs.counts.count_with_all.Given as goal

abbrev pub invariant-loop-row : goal.invariant-loop-row
invariant-loop-row g l = record {
  count : l.count ≡ length l.rows + sum_by (is_new g.R.Keyed.key g.R.Key.Ord.cmp l.rows) (take l.row-index l.more);
  bound : l.count ≤ length l.rows + l.row-index;
}
