-- The rules so far whose limit the material is over, at most one for each.
use Rattle.std.proofs.Common.{◌≡◌, ◌≤◌, count_by, take}
use Rattle.desk_findings.specs.Share.{is_over_limit}
use Rattle.desk_tables.proofs.table_lists.TableLists.over_among.Given as goal

abbrev pub invariant-loop-rule : goal.invariant-loop-rule
invariant-loop-rule l = record {
  bound : l.count ≤ l.rule-index;
  count : l.count ≡ count_by (λ rule. is_over_limit l.self rule l.material) (take l.rule-index l.rules);
}
