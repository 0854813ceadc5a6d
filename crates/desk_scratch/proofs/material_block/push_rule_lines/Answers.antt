-- One more rule, one more line and one more verdict.
use Rattle.std.proofs.Common.{◌≡◌, refl, arith}
use Rattle.desk_law.specs.Rule.{restricting_rules}
use Rattle.desk_scratch.specs.Judgement.{is_breached}
use Rattle.desk_scratch.proofs.Lines.{any-more, line-added}
use Rattle.desk_scratch.proofs.material_block.push_rule_lines.Goals as goal

pub loop-rule-preserved : goal.loop-rule-preserved
loop-rule-preserved c = record {
  rules = refl;
  lines = λ material told. line-added _ restricting_rules c.loop-rule.rule-index _ _ _ _ (omega arith) (c.loop-rule.invariant.lines material told) (c.in_ok-breach.ensures.line material told);
  breach = λ material told.
      any-more (is_breached c.args.by.now.lists c.args.by.now.kind c.args.by.now.day material) restricting_rules c.loop-rule.rule-index _ c.loop-rule.breach c.in_ok-breach.field-0 (omega arith)
      (c.loop-rule.invariant.breach material told) (c.in_ok-breach.ensures.breach material told);
}

pub returns-clause-lines : goal.returns-clause-lines
returns-clause-lines c = λ material told.
    let all : c.loop-rule.rule-index ≡ 10 = omega arith in
    rw all at c.loop-rule.invariant.lines material told

pub returns-clause-breach : goal.returns-clause-breach
returns-clause-breach c = λ material told.
    let all : c.loop-rule.rule-index ≡ 10 = omega arith in
    rw all at c.loop-rule.invariant.breach material told
