-- The counts of the parts so far.
use Rattle.std.proofs.Common.{◌≡◌, ◌≤◌, length, map, take, vec_len, vec_capacity}
use Rattle.desk_tables.specs.FindingCounts.{own_of_part}
use Rattle.desk_tables.proofs.table_lists.TableLists.part_counts.Given as goal

abbrev pub invariant-loop-place : goal.invariant-loop-place
invariant-loop-place l = record {
  counts : l.counts.items ≡ map (own_of_part l.self) (take l.place l.parts);
  count : vec_len l.counts ≡ l.place;
  room : length l.parts ≤ vec_capacity l.counts;
}
