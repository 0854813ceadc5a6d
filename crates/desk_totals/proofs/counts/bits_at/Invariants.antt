use Rattle.std.proofs.Common.{◌≡◌, ℕ, ◌&&◌, length}
use Rattle.std.specs.Prelude.{◌==◌, nat_lt, slice_index}
use Rattle.desk_totals.specs.Marks.{has_bit}
use Rattle.desk_totals.proofs.counts.bits_at.Given as goal

abbrev pub invariant-loop-bit : goal.invariant-loop-bit
invariant-loop-bit l =
    (length l.bits.items ≡ l.count)
    × ((bit place : ℕ) → has_bit bit (slice_index l.bits.items place) ≡ (nat_lt bit l.bit && slice_index l.holders bit == place))
