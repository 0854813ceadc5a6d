-- The counts so far are 0, so that one is above it exactly if one of the rest is.
use Rattle.std.proofs.Common.{◌≡◌, drop}
use Rattle.std.specs.Prelude.{nat_lt}
use Rattle.std.specs.List.{list_any}
use Rattle.desk_tables.proofs.found_part.first_above_zero.Given as goal

abbrev pub invariant-loop-place : goal.invariant-loop-place
invariant-loop-place l = list_any (λ count. nat_lt 0 count) l.counts ≡ list_any (λ count. nat_lt 0 count) (drop l.place l.counts)
