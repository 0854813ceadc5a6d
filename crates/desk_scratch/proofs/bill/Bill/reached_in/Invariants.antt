-- The places so far.
use Rattle.std.proofs.Common.{◌≡◌, ◌-◌, ◌≤◌, vec_len, vec_capacity}
use Rattle.std.specs.List.{range_with_len}
use Rattle.desk_scratch.proofs.bill.Bill.reached_in.Given as goal

abbrev pub invariant-loop-place : goal.invariant-loop-place
invariant-loop-place l = record {
  places : l.places.items ≡ range_with_len l.first (l.place - l.first);
  low : l.first ≤ l.place;
  count : vec_len l.places ≡ l.place - l.first;
  room : l.end - l.first ≤ vec_capacity l.places;
}
