use Rattle.std.proofs.Common.{◌≡◌, ℕ, ◌<◌, ◌&&◌, not, length}
use Rattle.std.specs.Prelude.{◌==◌, nat_lt, slice_index}
use Rattle.desk_totals.specs.Marks.{has_bit}
use Rattle.desk_totals.proofs.counts.clear_bits.Given as goal

abbrev pub invariant-loop-bit : goal.invariant-loop-bit
invariant-loop-bit l =
    (length l.bits.items ≡ length l.fn.bits.items)
    × ((bit place : ℕ) → bit < 64 → has_bit bit (slice_index l.bits.items place) ≡ (has_bit bit (slice_index l.fn.bits.items place) && not (nat_lt bit l.bit && slice_index l.holders bit == place)))
