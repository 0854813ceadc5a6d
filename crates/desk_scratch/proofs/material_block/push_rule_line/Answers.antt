-- The parts of the line, of whatever row says these facts.
use Rattle.std.proofs.Common.{◌≡◌, ◌∙◌, ap, refl}
use Rattle.desk_scratch.specs.Holdings.{holdings_of}
use Rattle.desk_scratch.specs.Judgement.{is_breach}
use Rattle.desk_scratch.specs.MaterialBlock.{rule_line, rule_line_with}
use Rattle.desk_scratch.proofs.material_block.push_rule_line.Goals as goal

pub returns-clause-line : goal.returns-clause-line
unfolding rule_line rule_line_with
returns-clause-line c = λ material told.
    let same = c.facts.view_is ∙ told in
    let held = c.requires ∙ ap (holdings_of c.args.by.now.lists) (ap (λ f. f.substances) told) in
    let mass : c.facts.inside.mass ≡ material.mass = ap (λ f. f.mass) same in
    let share = c.share-share.ensures c.args.by.now.lists material held in
    c.in_ok-push_judged_line.ensures
    ∙ rw (share, c.from.ensures, c.from-2.ensures, c.limit_ppm.ensures, mass, c.terms-rows.ensures, c.verdict-verdict.ensures material told share) refl

pub returns-clause-breach : goal.returns-clause-breach
returns-clause-breach c = λ material told.
    let held = c.requires ∙ ap (holdings_of c.args.by.now.lists) (ap (λ f. f.substances) told) in
    c.is_breach.ensures ∙ ap is_breach (c.verdict-verdict.ensures material told (c.share-share.ensures c.args.by.now.lists material held))
