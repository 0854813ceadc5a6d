use Rattle.std.proofs.Common.{◌≡◌, ◌∙◌, ap, sym}
use Rattle.desk_rows.specs.Rows.{with_row}
use Rattle.desk_model.specs.Lists.{line_key, line_key_cmp}
use Rattle.desk_findings.specs.Reaches.{lines_of}
use Rattle.desk_bridge.proofs.KeptLines.{lines-with_other}
use Rattle.desk_bridge.proofs.LinesAfter.{run-with, run_by_key}
use Rattle.desk_bridge.proofs.OwnRows.{if_ok}
use Rattle.desk_bridge.proofs.lines_after.lines_with.Goals as goal

pub put_among-requires : goal.put_among-requires
put_among-requires c = rw c.lines_among.ensures (run_by_key c.args.lines.now c.requires c.args.code.now)

pub returns-then-eq : goal.returns-then-eq
returns-then-eq c =
    if_ok _ (λ kept. kept.items ≡ lines_of (with_row line_key line_key_cmp c.args.new.now c.args.lines.now) c.args.code.now) c.put_among.result c.put_among.ensures
    (λ kept is.
    is
    ∙ ap (with_row line_key line_key_cmp c.args.new.now) c.lines_among.ensures
    ∙ sym (run-with c.args.lines.now c.requires c.args.code.now c.args.new.now (sym c.eq.ensures ∙ c.if-eq.true)))

pub returns-else-eq : goal.returns-else-eq
returns-else-eq c =
    if_ok _ (λ kept. kept.items ≡ lines_of (with_row line_key line_key_cmp c.args.new.now c.args.lines.now) c.args.code.now) c.kept_lines.result c.kept_lines.ensures
    (λ kept is. is ∙ sym (lines-with_other c.args.lines.now c.args.code.now c.args.new.now (sym c.eq.ensures ∙ c.if-eq.false)))
