use Rattle.std.proofs.Common.{[], get_or, sym, ap, ◌∙◌}
use Rattle.std.proofs.lemmas.List.{get_or-map}
use Rattle.desk_findings.specs.Reaches.{reaches}
use Rattle.desk_totals.proofs.Walks.{reaches_nothing}
use Rattle.desk_totals.proofs.links.Links.does_reach.Goals as goal

pub returns-in-Some : goal.returns-in-Some
returns-in-Some c t of is_bill =
    let nodes = c.args.self.now.nodes in
    let target = c.args.target.now in
    c.index.ensures
    ∙ ap (λ marks. get_or marks c.in-Some.place c.index.result.now) (c.in_ok-marks.ensures.marks t of is_bill)
    ∙ get_or-map (λ code. reaches t code target) nodes c.in-Some.place [] c.index.result.now c.in-Some.ensures.0
    ∙ ap (λ code. reaches t code target) c.in-Some.ensures.1

pub returns : goal.returns
returns c t of is_bill = sym (reaches_nothing t is_bill c.args.self.now of c.args.from.now c.args.target.now c.in-None.ensures)
