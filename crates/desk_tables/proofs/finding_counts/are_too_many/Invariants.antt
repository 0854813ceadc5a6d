-- What the holders so far add up to, not yet too much.
use Rattle.std.proofs.Common.{◌≡◌, ◌≤◌, sum_by}
use Rattle.std.specs.List.{range_with_len}
use Rattle.desk_model.specs.declared.limits.TheConstants.{FINDING_LIMIT}
use Rattle.desk_tables.specs.FindingCounts.{added_at}
use Rattle.desk_tables.proofs.finding_counts.are_too_many.Given as goal

abbrev pub invariant-loop-index : goal.invariant-loop-index
invariant-loop-index l = record {
  total : l.total ≡ sum_by (added_at l.own l.holders l.reach l.material_count) (range_with_len 0 l.index);
  bound : l.total ≤ FINDING_LIMIT;
}
