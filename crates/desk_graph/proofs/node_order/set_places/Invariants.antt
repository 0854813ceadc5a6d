use Rattle.std.proofs.Common.{◌≡◌, ℕ, ◌<◌, length, slice_index}
use Rattle.desk_graph.proofs.node_order.set_places.Given as goal

abbrev pub invariant-loop-place : goal.invariant-loop-place
invariant-loop-place l =
    (length l.places ≡ length l.fn.places) × ((before : ℕ) → before < l.place → slice_index l.places (slice_index l.nodes before) ≡ before)
