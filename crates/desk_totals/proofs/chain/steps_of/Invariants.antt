use Rattle.std.proofs.Common.{◌≡◌, ℕ, ◌<◌, ◌≤◌, None, Some, length, vec_len, vec_capacity}
use Rattle.std.specs.Prelude.{slice_index_or, if◌then◌else◌}
use Rattle.desk_totals.specs.Marks.{has_bit}
use Rattle.desk_totals.proofs.chain.steps_of.Given as goal

abbrev pub invariant-loop-place : goal.invariant-loop-place
invariant-loop-place l =
    (vec_len l.steps ≡ l.place)
    × (length l.bits ≤ vec_capacity l.steps)
    × ((place : ℕ) → place < l.place → slice_index_or l.steps.items place None ≡ (if has_bit 0 (slice_index_or l.bits place 0) then Some place else None))
