-- The holders so far, at most one for each place.
use Rattle.std.proofs.Common.{◌≡◌, ◌≤◌, filter, length, vec_len, vec_capacity}
use Rattle.std.specs.Prelude.{nat_lt, slice_index}
use Rattle.std.specs.List.{range_with_len}
use Rattle.desk_tables.proofs.finding_counts.holders_of.Given as goal

abbrev pub invariant-loop-place : goal.invariant-loop-place
invariant-loop-place l = record {
  holders : l.holders.items ≡ filter (λ place. nat_lt 0 (slice_index l.own place)) (range_with_len 0 l.place);
  count : vec_len l.holders ≤ l.place;
  room : length l.own ≤ vec_capacity l.holders;
}
