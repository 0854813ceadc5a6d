use Rattle.std.proofs.Common.{◌∙◌, ap}
use Rattle.desk_rows.specs.Rows.{with_rows}
use Rattle.desk_model.specs.Lists.{member_key, member_key_cmp}
use Rattle.desk_tables.proofs.StartTexts.{all_members}
use Rattle.desk_tables.proofs.start.base_members.Goals as goal

pub returns : goal.returns
returns c =
    c.in_ok-put_all.ensures.ok
    ∙ ap (with_rows member_key member_key_cmp c.loop-rule.rows.items) c.new-table.ensures
    ∙ all_members _ c.loop-rule.rows.items c.loop-rule.rule-index c.loop-rule.invariant.rules c.loop-rule-test.false c.loop-rule.invariant.rows
