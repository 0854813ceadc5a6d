use Rattle.std.proofs.Common.{◌≡◌, ◌+◌, length, sym, ap, ◌∙◌, arith}
use Rattle.desk_totals.proofs.Settle.{round-length, rounds-more, rounds-none, rounds_end}
use Rattle.desk_totals.specs.Marks.{with_bits}
use Rattle.desk_totals.specs.Rounds.{round}
use Rattle.desk_totals.proofs.bits.rounds_of_bits.Goals as goal

pub loop-round-init : goal.loop-round-init
loop-round-init c = (c.requires.first, rounds-none with_bits 0 c.args.bill.now c.args.own.now c.args.first.items)

pub returns-then-are_same-clause-bits : goal.returns-then-are_same-clause-bits
returns-then-are_same-clause-bits c =
    let bill = c.args.bill.now in
    let bits = c.loop-round.bits.items in
    let next = c.in_ok-next.next.items in
    let next_is : next ≡ round with_bits 0 bill c.args.own.now bits = c.in_ok-next.ensures ∙ ap (round with_bits 0 bill c.args.own.now) c.as_slice.ensures.value in
    let same : next ≡ bits = sym c.as_slice-in-loop-round.ensures.value ∙ c.are_same.ensures c.if-are_same.true ∙ c.as_slice-in-loop-round-2.ensures.value in
    rounds_end with_bits 0 bill c.args.own.now c.loop-round._round (length bill.nodes + 2) c.args.first.items bits (omega (arith, c.loop-round-test.true, ap length c.nodes-node_count.ensures.nodes)) c.loop-round.invariant.1 (sym same ∙ next_is)

pub loop-round-preserved : goal.loop-round-preserved
loop-round-preserved c =
    let bill = c.args.bill.now in
    let bits = c.loop-round.bits.items in
    let next = c.in_ok-next.next.items in
    let next_is : next ≡ round with_bits 0 bill c.args.own.now bits = c.in_ok-next.ensures ∙ ap (round with_bits 0 bill c.args.own.now) c.as_slice.ensures.value in (
      round-length with_bits 0 bill c.args.own.now bits next next_is,
      rounds-more with_bits 0 bill c.args.own.now c.loop-round._round c.args.first.items bits next c.loop-round.invariant.1 next_is,
    )
