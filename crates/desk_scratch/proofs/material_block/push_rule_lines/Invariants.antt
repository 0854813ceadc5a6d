-- What was appended so far are the lines of the first rules, of which some verdict was a breach or none.
use Rattle.std.proofs.Common.{◌≡◌, ◌++◌, string_bytes, take}
use Rattle.std.specs.List.{flat_map, list_any}
use Rattle.desk_law.specs.Rule.{restricting_rules}
use Rattle.desk_model.specs.declared.rows.material.MaterialRow.{MaterialRow}
use Rattle.desk_scratch.specs.Assessment.{facts_of}
use Rattle.desk_scratch.specs.Judgement.{is_breached}
use Rattle.desk_scratch.specs.MaterialBlock.{rule_line}
use Rattle.desk_scratch.proofs.material_block.push_rule_lines.Given as goal

abbrev pub invariant-loop-rule : goal.invariant-loop-rule
invariant-loop-rule l = record {
  rules : l.rule-items ≡ restricting_rules;
  lines : (material : MaterialRow) → l.facts ≡ facts_of material
      → string_bytes l.out ≡ string_bytes l.fn.out ++ flat_map (rule_line l.by.lists l.by.kind l.by.day material) (take l.rule-index l.rule-items);
  breach : (material : MaterialRow) → l.facts ≡ facts_of material
      → l.breach ≡ list_any (is_breached l.by.lists l.by.kind l.by.day material) (take l.rule-index l.rule-items);
}
