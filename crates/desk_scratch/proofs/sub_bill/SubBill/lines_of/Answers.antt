use Rattle.std.proofs.Common.{ap, sym, subst, ◌∙◌}
use Rattle.desk_text.specs.Code.{code_cmp}
use Rattle.desk_rows.specs.Runs.{IsOneRun}
use Rattle.desk_findings.specs.Reaches.{lines_of}
use Rattle.desk_findings.proofs.Groups.{lines_together}
use Rattle.desk_scratch.proofs.sub_bill.SubBill.lines_of.Goals as goal

pub returns : goal.returns
returns c =
    let t = c.self.inside.tables.now.lists in
    let code = c.args.part.now in
    c.run_of.ensures (lines_of t.lines code)
    (subst (λ rows. IsOneRun (λ line. line.parent) code_cmp code rows (lines_of t.lines code)) (sym c.lines.ensures) (lines_together t c.self.invariant.0.consistent.ordered code))
    ∙ ap (λ v. lines_of v.lists.lines code) c.self.view_is
