use Rattle.std.proofs.Common.{◌≡◌, ℕ, ◌<◌, ◌≤◌, count_by, drop, vec_len, vec_capacity}
use Rattle.std.specs.Prelude.{slice_index}
use Rattle.desk_totals.specs.Marks.{has_bit}
use Rattle.desk_totals.proofs.counts.counts_above.Given as goal

abbrev pub invariant-loop-bit : goal.invariant-loop-bit
invariant-loop-bit l =
    (vec_len l.counts ≡ l.bit)
    × (l.count ≤ vec_capacity l.counts)
    × ((bit : ℕ) → bit < l.bit → slice_index l.counts.items bit ≡ count_by (has_bit bit) (drop l.from l.bits))
