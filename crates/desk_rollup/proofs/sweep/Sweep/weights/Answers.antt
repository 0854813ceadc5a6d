use Rattle.std.proofs.Common.{◌≡◌, ℕ, ◌<◌, ◌++◌, [], ◌∷◌, List, true, length, map, take, slice_index, slice_index_or, ◌^◌, sym, ap, ◌∙◌, subst, refl, arith}
use Rattle.std.proofs.lemmas.List.{length-map, length-take-le, map_more}
use Rattle.desk_graph.specs.Graph.{has_line}
use Rattle.desk_rollup.specs.Places.{place_at}
use Rattle.desk_rollup.specs.Rolled.{weight}
use Rattle.desk_rollup.specs.Values.{own_with}
use Rattle.desk_rollup.specs.Weights.{IsKnownWeight, fitting, known_weight, weighed}
use Rattle.desk_rollup.proofs.Counts.{has_at}
use Rattle.desk_rollup.proofs.Frame.{inside, knows_weight, list_at, weighs}
use Rattle.desk_rollup.proofs.sweep.Sweep.weights.Goals as goal

pub own-own-requires-clause-there : goal.own-own-requires-clause-there
own-own-requires-clause-there g c =
    let bill = g.B.BillView.graph c.args.self.now.bill.now in
    let nodes = c.args.self.now.places.now.nodes in
    let place = c.loop-place.place in
    let low : place < length nodes = omega (arith, c.loop-place-test.true, ap (λ l. length l) c.as_slice-node-items.ensures) in
    let P : List ℕ → Type 0 = λ l. slice_index l place < length bill.labels in
    subst P (sym c.as_slice-node-items.ensures)
    (inside bill c.args.self.now.owns.now c.args.self.now.kept.now c.args.self.now.of_owns.now c.args.self.now.places.now _ c.requires (slice_index nodes place) (has_at nodes place low))

pub weigh-weight-requires : goal.weigh-weight-requires
weigh-weight-requires g c =
    let bill = g.B.BillView.graph c.args.self.now.bill.now in
    let s = c.args.self.now in
    let nodes = s.places.now.nodes in
    let place = c.loop-place.place in
    let low : place < length nodes = omega (arith, c.loop-place-test.true, ap (λ l. length l) c.as_slice-node-items.ensures) in
    let lines = list_at bill s.owns.now s.kept.now s.of_owns.now s.places.now _ c.requires s.lists.now (λ l. l.now) place (record { ref_ptr = (0, 0); now = [] }) refl low in
    let size : length c.as_slice.result.now ≡ place =
    ap (λ l. length l) (c.as_slice.ensures.value ∙ c.loop-place.invariant) ∙ length-map (take place nodes) (λ node. fitting (weight bill.lines (own_with s.owns.now s.kept.now.owns) node)) ∙ length-take-le place nodes (omega (arith, low)) in
    λ child e.
    let P = λ (kept : List Rattle.desk_rollup.specs.declared.rolled.Rolled.Rolled). IsKnownWeight (place_at s.places.now child) kept c.as_slice.result.now child in
    subst P (sym c.values.ensures.values)
    (knows_weight bill s.owns.now s.kept.now s.of_owns.now s.places.now _ c.requires place low c.as_slice.result.now size child (subst (λ l. has_line l child ≡ true) lines e))

pub loop-place-preserved : goal.loop-place-preserved
loop-place-preserved g c =
    let bill = g.B.BillView.graph c.args.self.now.bill.now in
    let s = c.args.self.now in
    let nodes = s.places.now.nodes in
    let place = c.loop-place.place in
    let low : place < length nodes = omega (arith, c.loop-place-test.true, ap (λ l. length l) c.as_slice-node-items.ensures) in
    let weights = λ (node : ℕ). fitting (weight bill.lines (own_with s.owns.now s.kept.now.owns) node) in
    let lines = list_at bill s.owns.now s.kept.now s.of_owns.now s.places.now _ c.requires s.lists.now (λ l. l.now) place (record { ref_ptr = (0, 0); now = [] }) refl low in
    let kept = s.kept.now.rolled in
    let new = c.as_slice.result.now in
    let node = slice_index nodes place in
    let list = slice_index_or s.lists.now place (record { ref_ptr = (0, 0); now = [] }) in
    let own_is : c.own.inside.weight ≡ (own_with s.owns.now s.kept.now.owns node).weight =
    ap (λ o. o.weight) (c.own.view_is ∙ c.own-own.ensures ∙ ap (λ l. own_with s.owns.now s.kept.now.owns (slice_index l place)) c.as_slice-node-items.ensures) in
    let small : (own_with s.owns.now s.kept.now.owns node).weight < 2 ^ 128 = let P : ℕ → Type 0 = λ w. w < 2 ^ 128 in subst P own_is c.weigh-weight.ensures.own in
    let new_is : new ≡ map weights (take place nodes) = c.as_slice.ensures.value ∙ c.loop-place.invariant in
    let weighed_is : c.weigh-weight.result ≡ weights node =
    c.weigh-weight.ensures.value
    ∙ ap (λ k. weighed (λ child. known_weight (place_at s.places.now child) k new child) c.own.inside.weight list.now) c.values.ensures.values
    ∙ ap (λ w. weighed (λ child. known_weight (place_at s.places.now child) kept new child) w list.now) own_is
    ∙ ap (λ l. weighed (λ child. known_weight (place_at s.places.now child) kept new child) (own_with s.owns.now s.kept.now.owns node).weight l) lines
    ∙ weighs bill s.owns.now s.kept.now s.of_owns.now s.places.now _ c.requires place low new new_is small in
    c.in_ok-push.ensures.items ∙ ap (λ l. l ++ c.weigh-weight.result ∷ []) c.loop-place.invariant ∙ ap (λ w. map weights (take place nodes) ++ w ∷ []) weighed_is
    ∙ sym (map_more weights nodes place 0 low)
