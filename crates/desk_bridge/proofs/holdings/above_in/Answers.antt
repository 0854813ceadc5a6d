use Rattle.std.proofs.Common.{◌^◌, ◌∙◌, ap, filter, sym}
use Rattle.desk_model.specs.Lists.{material_row}
use Rattle.desk_findings.specs.OwnValues.{mass_of_lines}
use Rattle.desk_bridge.specs.Own.{AreAbove, is_more}
use Rattle.desk_bridge.proofs.HeldAmounts.{are_above, content_fits}
use Rattle.desk_bridge.proofs.OwnRows.{few_lines, if_ok}
use Rattle.desk_bridge.proofs.holdings.above_in.Goals as goal

pub weight_of-weight-requires : goal.weight_of-weight-requires
weight_of-weight-requires c = few_lines c.args.lists.now c.args.article.now c.as_slice.result.now (c.as_slice.ensures.value ∙ c.in_ok-lines.ensures) c.requires.few

pub held_by-requires-clause-fits : goal.held_by-requires-clause-fits
held_by-requires-clause-fits c =
    content_fits c.args.lists.now c.requires.consistent c.args.article.now c.requires.article c.as_slice-2.result.now (c.as_slice-2.ensures.value ∙ c.in_ok-lines.ensures) c.weight_of-weight.result
    (c.weight_of-weight.ensures.sum ∙ ap (mass_of_lines (material_row c.args.lists.now)) (c.as_slice.ensures.value ∙ sym c.as_slice-2.ensures.value)) (2 ^ 128) c.weight_of-weight.ensures.fits

pub returns : goal.returns
returns c =
    if_ok _ (λ above. AreAbove c.args.lists.now c.args.article.now above.items) c.more_than_thousandth.result c.more_than_thousandth.ensures
    (λ above is.
    are_above c.args.lists.now c.requires.consistent c.args.article.now c.requires.article c.as_slice-2.result.now (c.as_slice-2.ensures.value ∙ c.in_ok-lines.ensures) c.weight_of-weight.result
    (c.weight_of-weight.ensures.sum ∙ ap (mass_of_lines (material_row c.args.lists.now)) (c.as_slice.ensures.value ∙ sym c.as_slice-2.ensures.value))
    c.in_ok-held.held.rows c.as_slice-3.ensures.by_key c.in_ok-held.ensures above.items (is ∙ ap (filter (is_more c.args.lists.now c.weight_of-weight.result)) c.as_slice-3.ensures.rows))
