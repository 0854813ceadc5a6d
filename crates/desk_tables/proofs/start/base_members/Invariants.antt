use Rattle.std.proofs.Common.{◌≡◌, ◌≤◌, length, map, take, vec_len, vec_capacity}
use Rattle.desk_law.specs.Rule.{base_rules}
use Rattle.desk_model.specs.Start.{base_member}
use Rattle.desk_tables.proofs.start.base_members.Given as goal

abbrev pub invariant-loop-rule : goal.invariant-loop-rule
invariant-loop-rule l = record {
  rules : l.rule-items ≡ base_rules;
  rows : l.rows.items ≡ map base_member (take l.rule-index l.rule-items);
  count : vec_len l.rows ≡ l.rule-index;
  room : length l.rule-items ≤ vec_capacity l.rows;
}
