use Rattle.std.proofs.Common.{◌≡◌, ◌++◌, drop, filter, map}
use Rattle.desk_findings.specs.Share.{is_over_limit}
use Rattle.desk_bridge.specs.Own.{rule_mark}
use Rattle.desk_bridge.proofs.own.marks_over.Given as goal

abbrev pub invariant-loop-rule : goal.invariant-loop-rule
invariant-loop-rule l =
    l.marks.items ++ map (rule_mark l.node) (filter (λ rule. is_over_limit l.lists rule l.row) (drop l.rule-index l.rules)) ≡ map (rule_mark l.node) (filter (λ rule. is_over_limit l.lists rule l.row) l.rules)
