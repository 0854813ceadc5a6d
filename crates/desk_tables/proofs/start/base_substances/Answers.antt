use Rattle.std.proofs.Common.{◌∙◌, ap}
use Rattle.desk_text.specs.Code.{code_cmp}
use Rattle.desk_rows.specs.Rows.{with_rows}
use Rattle.desk_tables.proofs.StartTexts.{all_substances}
use Rattle.desk_tables.proofs.start.base_substances.Goals as goal

pub returns : goal.returns
returns c =
    c.in_ok-put_all.ensures.ok
    ∙ ap (with_rows (λ row. row.code) code_cmp c.loop-rule.rows.items) c.new-table.ensures
    ∙ all_substances _ c.loop-rule.rows.items c.loop-rule.rule-index c.loop-rule.invariant.rules c.loop-rule-test.false c.loop-rule.invariant.rows
