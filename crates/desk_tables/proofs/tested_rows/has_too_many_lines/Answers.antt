use Rattle.std.proofs.Common.{ap, length, subst, sym}
use Rattle.std.specs.Prelude.{nat_lt}
use Rattle.desk_text.specs.Code.{code_cmp}
use Rattle.desk_model.specs.declared.limits.TheConstants.{LINES_OF_PARENT_LIMIT}
use Rattle.desk_rows.specs.Runs.{IsOneRun}
use Rattle.desk_findings.specs.Reaches.{lines_of}
use Rattle.desk_findings.proofs.Groups.{lines_together}
use Rattle.desk_tables.proofs.tested_rows.has_too_many_lines.Goals as goal

pub returns : goal.returns
returns c =
    let t = c.args.tables.now.lists in
    let parent = c.args.parent.now in
    let together = subst (λ rows. IsOneRun (λ line. line.parent) code_cmp parent rows (lines_of t.lines parent)) (sym c.lines.ensures) (lines_together t c.in_order.ensures parent) in
    ap (λ rows. nat_lt LINES_OF_PARENT_LIMIT (length rows)) (c.run_of.ensures (lines_of t.lines parent) together)
