use Rattle.std.proofs.Common.{ap, sym, length, subst, arith}
use Rattle.std.proofs.lemmas.List.{take_at}
use Rattle.desk_rollup.specs.Places.{IsPlaceOf, Placed, place_in}
use Rattle.desk_rollup.proofs.Puts.{told_by}
use Rattle.desk_rollup.proofs.places.Places.new.Goals as goal

pub invariant_of-result : goal.invariant_of-result
invariant_of-result c =
    let placed : Placed = record { nodes = c.args.nodes.items; slots = c.new-slots.result.items } in
    told_by placed (λ node low. absurd (omega (arith, low, ap (λ l. length l) c.new-slots.ensures.items)))

pub invariant_of-result-2 : goal.invariant_of-result-2
invariant_of-result-2 c =
    let slots = c.set_slots.new.slots in
    let held = take_at slots _ _ (omega (arith, c.set_slots.auto.slots, c.in_ok-slots.slots.ok.0, ap (λ l. length l) c.as_mut_slice.ensures.value)) in
    λ node.
    told_by _ (λ other low.
    subst (λ l. IsPlaceOf c.args.nodes.items other (place_in l other)) (sym held)
    (subst (λ l. IsPlaceOf l other (place_in slots other)) c.as_slice.ensures.value (c.set_slots.ensures other))) node
