-- The counts of the materials so far.
use Rattle.std.proofs.Common.{◌≡◌, ◌≤◌, length, map, take, vec_len, vec_capacity}
use Rattle.desk_tables.specs.FindingCounts.{own_of_material}
use Rattle.desk_tables.proofs.table_lists.TableLists.material_counts.Given as goal

abbrev pub invariant-loop-material : goal.invariant-loop-material
invariant-loop-material l = record {
  counts : l.counts.items ≡ map (own_of_material l.self) (take l.material-index l.materials);
  count : vec_len l.counts ≡ l.material-index;
  room : length l.materials ≤ vec_capacity l.counts;
}
