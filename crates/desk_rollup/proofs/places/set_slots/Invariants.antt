use Rattle.std.proofs.Common.{◌≡◌, ℕ, length, take}
use Rattle.desk_rollup.specs.Places.{IsPlaceOf, place_in}
use Rattle.desk_rollup.proofs.places.set_slots.Given as goal

abbrev pub invariant-loop-place : goal.invariant-loop-place
invariant-loop-place l = (length l.slots ≡ length l.initial.slots) × ((node : ℕ) → IsPlaceOf (take l.place l.nodes) node (place_in l.slots node))
