use Rattle.std.proofs.Common.{◌∙◌, ap, subst, sym}
use Rattle.std.specs.List.{list_any}
use Rattle.desk_text.specs.Code.{code_cmp}
use Rattle.desk_rows.specs.Runs.{IsOneRun}
use Rattle.desk_findings.specs.Reaches.{lines_of}
use Rattle.desk_findings.proofs.Groups.{lines_together}
use Rattle.desk_scratch.specs.LookUps.{holds_candidate}
use Rattle.desk_scratch.proofs.founds.leads_to_candidate.Goals as goal

pub returns : goal.returns
returns c =
    let t = c.args.tables.now.lists in
    let part = c.args.part.now in
    let lines = c.run_of.ensures (lines_of t.lines part) (subst (λ rows. IsOneRun (λ line. line.parent) code_cmp part rows (lines_of t.lines part)) (sym c.lines.ensures) (lines_together t c.requires.consistent.ordered part)) in
    c.is_candidate_below.ensures ∙ ap (list_any (λ line. holds_candidate t line.child)) lines
