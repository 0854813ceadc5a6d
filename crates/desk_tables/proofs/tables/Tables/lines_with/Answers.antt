use Rattle.std.proofs.Common.{ap, sym, subst, ◌∙◌, ◌+◌, length}
use Rattle.desk_text.specs.Code.{code_cmp}
use Rattle.desk_rows.specs.Runs.{IsOneRun}
use Rattle.desk_findings.specs.Reaches.{lines_of}
use Rattle.desk_findings.proofs.Groups.{lines_together}
use Rattle.desk_tables.proofs.ParentLines.{count_kept, count_new}
use Rattle.desk_tables.proofs.tables.Tables.lines_with.Goals as goal

pub returns-then-is_line : goal.returns-then-is_line
returns-then-is_line c =
    let t = c.args.self.now.lists in
    let new = c.args.row.now in
    let together = subst (λ rows. IsOneRun (λ line. line.parent) code_cmp new.parent rows (lines_of t.lines new.parent)) (sym c.lines.ensures) (lines_together t c.in_order.ensures new.parent) in
    ap length (c.run_of.ensures (lines_of t.lines new.parent) together)
    ∙ count_kept new t.lines c.in_order.ensures.lines (sym c.is_line.ensures ∙ c.if-is_line.true)

pub returns-else-is_line : goal.returns-else-is_line
returns-else-is_line c =
    let t = c.args.self.now.lists in
    let new = c.args.row.now in
    let together = subst (λ rows. IsOneRun (λ line. line.parent) code_cmp new.parent rows (lines_of t.lines new.parent)) (sym c.lines.ensures) (lines_together t c.in_order.ensures new.parent) in
    ap (λ rows. length rows + 1) (c.run_of.ensures (lines_of t.lines new.parent) together)
    ∙ count_new new t.lines c.in_order.ensures.lines (sym c.is_line.ensures ∙ c.if-is_line.false)
