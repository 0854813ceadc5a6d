-- The candidates so far that are above, at most one for each.
use Rattle.std.proofs.Common.{◌≡◌, ◌≤◌, count_by, take}
use Rattle.desk_findings.specs.Above.{is_above}
use Rattle.desk_tables.proofs.table_lists.TableLists.above_among.Given as goal

abbrev pub invariant-loop-candidate : goal.invariant-loop-candidate
invariant-loop-candidate l = record {
  bound : l.count ≤ l.candidate-index;
  count : l.count ≡ count_by (λ candidate. is_above l.self l.article candidate.substance) (take l.candidate-index l.candidates);
}
