use Rattle.std.proofs.Common.{◌≡◌, ℕ, ◌<◌, ◌+◌, List, length, slice_index, slice_index_or, None, sym, ap, ◌∙◌, subst, arith}
use Rattle.std.proofs.lemmas.List.{get_or-map}
use Rattle.desk_rollup.specs.Rolled.{weight}
use Rattle.desk_rollup.specs.Sweep.{lesser_of}
use Rattle.desk_rollup.specs.Values.{own_with}
use Rattle.desk_rollup.specs.Weights.{fitting}
use Rattle.desk_rollup.proofs.Counts.{has_at}
use Rattle.desk_rollup.proofs.Frame.{inside}
use Rattle.desk_rollup.proofs.Heavy.{IsFirstAmong, first_more, first_of_all}
use Rattle.desk_rollup.proofs.sweep.Sweep.first_too_large.Goals as goal

pub lesser_of-first-requires-clause-there : goal.lesser_of-first-requires-clause-there
lesser_of-first-requires-clause-there g c =
    let bill = g.B.BillView.graph c.args.self.now.bill.now in
    let s = c.args.self.now in
    let nodes = s.places.now.nodes in
    let place = c.loop-place.place in
    let low : place < length nodes = omega (arith, c.loop-place-test.true, ap (λ l. length l) c.as_slice-node-items.ensures) in
    let P : List ℕ → Type 0 = λ l. slice_index l place < length bill.labels in
    subst P (sym c.as_slice-node-items.ensures) (inside bill s.owns.now s.kept.now s.of_owns.now s.places.now _ c.requires.sweep (slice_index nodes place) (has_at nodes place low))

pub loop-place-preserved : goal.loop-place-preserved
loop-place-preserved g c =
    let bill = g.B.BillView.graph c.args.self.now.bill.now in
    let s = c.args.self.now in
    let nodes = s.places.now.nodes in
    let place = c.loop-place.place in
    let low : place < length nodes = omega (arith, c.loop-place-test.true, ap (λ l. length l) c.as_slice-node-items.ensures) in
    let weights = weight bill.lines (own_with s.owns.now s.kept.now.owns) in
    let there = inside bill s.owns.now s.kept.now s.of_owns.now s.places.now _ c.requires.sweep (slice_index nodes place) (has_at nodes place low) in
    let is : c.lesser_of-first.result ≡ lesser_of bill.labels c.loop-place.first (slice_index nodes place) (fitting (weights (slice_index nodes place))) =
    c.lesser_of-first.ensures
    ∙ ap (λ l. lesser_of bill.labels c.loop-place.first (slice_index l place) (slice_index_or c.args.weights.now place None)) c.as_slice-node-items.ensures
    ∙ ap (λ o. lesser_of bill.labels c.loop-place.first (slice_index nodes place) o)
    (ap (λ l. slice_index_or l place None) c.requires.weights ∙ get_or-map (λ n. fitting (weights n)) nodes place 0 None low) in
    subst (IsFirstAmong bill weights nodes (place + 1)) (sym is) (first_more bill weights nodes place there c.loop-place.first c.loop-place.invariant)

pub returns : goal.returns
returns g c =
    let bill = g.B.BillView.graph c.args.self.now.bill.now in
    let s = c.args.self.now in
    let nodes = s.places.now.nodes in
    let size = ap (λ l. length l) c.as_slice-node-items.ensures in
    let all : c.loop-place.place ≡ length nodes = omega (arith, c.loop-place-test.false, c.loop-place.auto.place-end, size) in
    first_of_all bill s.owns.now s.kept.now s.of_owns.now s.places.now _ c.requires.sweep c.loop-place.first
    (subst (λ n. IsFirstAmong bill (weight bill.lines (own_with s.owns.now s.kept.now.owns)) nodes n c.loop-place.first) all c.loop-place.invariant)
