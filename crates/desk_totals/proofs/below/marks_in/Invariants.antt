use Rattle.std.proofs.Common.{◌≡◌, ℕ, ◌<◌, ◌≤◌, false, vec_len, vec_capacity}
use Rattle.std.specs.Prelude.{slice_index_or}
use Rattle.desk_totals.specs.Marks.{has_bit}
use Rattle.desk_totals.proofs.below.marks_in.Given as goal

abbrev pub invariant-loop-bit : goal.invariant-loop-bit
invariant-loop-bit l =
    (vec_len l.marks ≡ l.bit)
    × (l.count ≤ vec_capacity l.marks)
    × ((bit : ℕ) → bit < l.bit → slice_index_or l.marks.items bit false ≡ has_bit bit l.bits)
