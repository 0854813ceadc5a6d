-- What the first substances come to.
use Rattle.std.proofs.Common.{◌≡◌, ◌≤◌, length, take, vec_len, vec_capacity}
use Rattle.desk_scratch.specs.Holdings.{holdings_of}
use Rattle.desk_scratch.proofs.holdings.Holdings.new.Given as goal

abbrev pub invariant-loop-held : goal.invariant-loop-held
invariant-loop-held l = record {
  each : l.each.items ≡ holdings_of l.tables.lists (take l.held-index l.substances);
  count : vec_len l.each ≡ l.held-index;
  room : length l.substances ≤ vec_capacity l.each;
}
