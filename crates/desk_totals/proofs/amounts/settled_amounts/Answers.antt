use Rattle.std.proofs.Common.{◌≡◌, None, sym, ap, ◌∙◌}
use Rattle.desk_totals.proofs.Settle.{round-length, rounds-more, rounds-none, settled_where_same}
use Rattle.desk_totals.specs.Fit.{fit_with}
use Rattle.desk_totals.specs.Rounds.{round}
use Rattle.desk_totals.proofs.amounts.settled_amounts.Goals as goal

pub loop-round-init : goal.loop-round-init
loop-round-init c =
    let size = c.in_ok-amounts.ensures ∙ c.requires in
    (size, (c.in_ok-amounts.amounts.items, size, rounds-none fit_with None c.args.bill.now c.args.own.now c.in_ok-amounts.amounts.items))

pub returns-then-are_same-clause-amounts : goal.returns-then-are_same-clause-amounts
returns-then-are_same-clause-amounts c =
    let bits = c.loop-round.amounts.items in
    let next = c.in_ok-next.next.items in
    let next_is : next ≡ round fit_with None c.args.bill.now c.args.own.now bits = c.in_ok-next.ensures ∙ ap (round fit_with None c.args.bill.now c.args.own.now) c.as_slice.ensures.value in
    let same : next ≡ bits = sym c.as_slice-in-loop-round.ensures.value ∙ c.are_same.ensures c.if-are_same.true ∙ c.as_slice-in-loop-round-2.ensures.value in
    settled_where_same fit_with None c.args.bill.now c.args.own.now bits c.loop-round.invariant.0 (sym same ∙ next_is)

pub loop-round-preserved : goal.loop-round-preserved
loop-round-preserved c =
    let bits = c.loop-round.amounts.items in
    let next = c.in_ok-next.next.items in
    let next_is : next ≡ round fit_with None c.args.bill.now c.args.own.now bits = c.in_ok-next.ensures ∙ ap (round fit_with None c.args.bill.now c.args.own.now) c.as_slice.ensures.value in
    let began = c.loop-round.invariant.1 in (
      round-length fit_with None c.args.bill.now c.args.own.now bits next next_is,
      (began.0, began.1, rounds-more fit_with None c.args.bill.now c.args.own.now c.loop-round._round began.0 bits next began.2 next_is),
    )
