use Rattle.std.proofs.Common.{None, get_or, set, sym, ap, ◌∙◌}
use Rattle.std.proofs.lemmas.List.{length-set}
use Rattle.desk_totals.proofs.Scatter.{part_round-all, part_round-more, part_round-none}
use Rattle.desk_totals.specs.Fit.{fit_with}
use Rattle.desk_totals.specs.Rounds.{round}
use Rattle.desk_totals.proofs.amounts.add_children.Goals as goal

pub loop-link-init : goal.loop-link-init
loop-link-init c =
    let bill = c.args.bill.now in
    (c.requires.next, part_round-none fit_with None bill.nodes c.links-link-items.ensures.linked.distinct c.links-link-items.result.now c.args.next.now c.args.amounts.now c.requires.next)

pub loop-link-preserved : goal.loop-link-preserved
loop-link-preserved c =
    let bill = c.args.bill.now in
    let places = c.links-link-items.ensures.places c.loop-link.link-index (record { parent = 0; child = 0; count = 0 }) c.loop-link-test.true in (
      length-set _ _ _ ∙ c.loop-link.invariant.0,
      ap (set c.loop-link.next (get_or c.links-link-items.result.now c.loop-link.link-index (record { parent = 0; child = 0; count = 0 })).parent) c.with_child.ensures
          ∙ part_round-more fit_with None bill.nodes c.links-link-items.ensures.linked.distinct c.links-link-items.result.now c.args.next.now c.args.amounts.now c.loop-link.link-index (record { parent = 0; child = 0; count = 0 }) c.loop-link.next c.loop-link-test.true
          places.0 places.1 c.requires.amounts c.loop-link.invariant.1,
    )

pub returns : goal.returns
returns c =
    let bill = c.args.bill.now in
    c.loop-link.invariant.1
    ∙ part_round-all fit_with None bill.nodes c.links-link-items.ensures.linked.distinct c.links-link-items.result.now c.args.next.now c.args.amounts.now bill.material_count c.loop-link.link-index c.loop-link-test.false
    ∙ ap (λ lines. round fit_with None (record { nodes = bill.nodes; material_count = bill.material_count; lines = lines }) c.args.next.now c.args.amounts.now) (sym c.links-link-items.ensures.lines)
