use Rattle.std.proofs.Common.{arith, subst}
use Rattle.std.specs.List.{All}
use Rattle.std.specs.Prelude.{MatchBool}
use Rattle.std.proofs.lemmas.List.Elements.{All-more, recursion_from_All}
use Rattle.desk_history.specs.Sound.{IsTicketOfEdit}
use Rattle.desk_tables.proofs.Taken.{take_whole}
use Rattle.desk_tables.proofs.tickets_sound.first_of_no_edit.Goals as goal

pub loop-place-preserved : goal.loop-place-preserved
loop-place-preserved c =
    let ticket = c.index-tickets-place.result in
    All-more IsTicketOfEdit c.args.tickets.now c.loop-place.place ticket c.loop-place-test.true c.loop-place.invariant
    (subst IsTicketOfEdit c.index-tickets-place.is
    (subst (λ is. MatchBool is (IsTicketOfEdit ticket) (IsTicketOfEdit ticket → ⊥)) c.if-not-is_of_edit.false c.in_ok-is_of_edit.ensures))

pub returns : goal.returns
returns c =
    recursion_from_All IsTicketOfEdit c.args.tickets.now
    (subst (All IsTicketOfEdit) (take_whole c.args.tickets.now c.loop-place.place (omega (arith, c.loop-place-test.false))) c.loop-place.invariant)
