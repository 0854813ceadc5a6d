use Rattle.std.proofs.Common.{◌*◌, ◌<◌, ◌^◌, ap, sym, subst, ◌∙◌, sum_by}
use Rattle.desk_text.specs.Code.{code_cmp}
use Rattle.desk_rows.specs.Runs.{IsOneRun}
use Rattle.desk_findings.specs.Above.{content, mass_in}
use Rattle.desk_findings.specs.Reaches.{lines_of}
use Rattle.desk_findings.proofs.Groups.{lines_together}
use Rattle.desk_tables.proofs.table_lists.TableLists.content.Goals as goal

pub content_of-requires-clause-fits : goal.content_of-requires-clause-fits
unfolding content
content_of-requires-clause-fits c =
    let t = c.args.self.now in
    let article = c.args.article.now in
    let together = subst (λ rows. IsOneRun (λ line. line.parent) code_cmp article rows (lines_of t.lines article)) (sym c.lines.ensures) (lines_together t c.requires.ordered article) in
    subst (λ rows. sum_by (λ line. line.count * mass_in t c.args.substance.now line.child) rows < 2 ^ 128) (sym (c.run_of.ensures (lines_of t.lines article) together)) c.requires.fits

pub returns : goal.returns
unfolding content
returns c =
    let t = c.args.self.now in
    let article = c.args.article.now in
    let together = subst (λ rows. IsOneRun (λ line. line.parent) code_cmp article rows (lines_of t.lines article)) (sym c.lines.ensures) (lines_together t c.requires.ordered article) in
    c.content_of.ensures ∙ ap (λ rows. sum_by (λ line. line.count * mass_in t c.args.substance.now line.child) rows) (c.run_of.ensures (lines_of t.lines article) together)
