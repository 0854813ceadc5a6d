use Rattle.std.proofs.Common.{◌≡◌, ◌∙◌, ap, sym}
use Rattle.desk_rows.specs.Rows.{without_row}
use Rattle.desk_model.specs.Lists.{line_key, line_key_cmp}
use Rattle.desk_findings.specs.Reaches.{lines_of}
use Rattle.desk_bridge.proofs.KeptLines.{lines-without_other}
use Rattle.desk_bridge.proofs.LinesAfter.{run-without, run_by_key}
use Rattle.desk_bridge.proofs.OwnRows.{if_ok}
use Rattle.desk_bridge.proofs.lines_after.lines_without.Goals as goal

pub drop_among-requires : goal.drop_among-requires
drop_among-requires c = rw c.lines_among.ensures (run_by_key c.args.lines.now c.requires c.args.code.now)

pub returns-then-eq : goal.returns-then-eq
returns-then-eq c =
    if_ok _ (λ kept. kept.items ≡ lines_of (without_row line_key line_key_cmp (c.args.parent.now, c.args.child.now) c.args.lines.now) c.args.code.now) c.drop_among.result c.drop_among.ensures
    (λ kept is.
    is
    ∙ ap (without_row line_key line_key_cmp (c.args.parent.now, c.args.child.now)) c.lines_among.ensures
    ∙ sym (run-without c.args.lines.now c.requires c.args.code.now c.args.parent.now c.args.child.now (sym c.eq.ensures ∙ c.if-eq.true)))

pub returns-else-eq : goal.returns-else-eq
returns-else-eq c =
    if_ok _ (λ kept. kept.items ≡ lines_of (without_row line_key line_key_cmp (c.args.parent.now, c.args.child.now) c.args.lines.now) c.args.code.now) c.kept_lines.result c.kept_lines.ensures
    (λ kept is. is ∙ sym (lines-without_other c.args.lines.now c.args.code.now c.args.parent.now c.args.child.now (sym c.eq.ensures ∙ c.if-eq.false)))
