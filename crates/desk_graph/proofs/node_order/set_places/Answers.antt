use Rattle.std.proofs.Common.{◌≡◌, ◌∙◌, inl, inr, slice_index, set, subst, arith}
use Rattle.std.proofs.lemmas.Bool.{cases_lt}
use Rattle.std.proofs.lemmas.List.{get_or-set_other, get_or-set_same, length-set}
use Rattle.desk_graph.proofs.Ordered.{order_apart}
use Rattle.desk_graph.proofs.node_order.set_places.Goals as goal

pub loop-place-preserved : goal.loop-place-preserved
loop-place-preserved c =
    let nodes = c.args.nodes.now in
    let places = c.loop-place.places in
    let place = c.loop-place.place in (
      length-set _ _ _ ∙ c.loop-place.invariant.0,
      λ before h.
          elim (cases_lt before place) [
            | inl below ↦
                get_or-set_other places (slice_index nodes place) (slice_index nodes before) place 0 (λ same. order_apart nodes c.requires.once before place below (omega arith) same)
                ∙ c.loop-place.invariant.1 before below
            | inr past ↦
                let here : place ≡ before = omega arith in
                subst (λ k. slice_index (set places (slice_index nodes place) place) (slice_index nodes k) ≡ k) here
                (get_or-set_same places (slice_index nodes place) place 0 (omega (arith, c.requires.inside place (omega arith), c.loop-place.invariant.0)))
          ],
    )
