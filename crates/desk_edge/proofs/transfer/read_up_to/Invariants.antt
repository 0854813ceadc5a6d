-- The bytes so far are what the link has given, and no more than one past the limit.
use Rattle.std.proofs.Common.{◌≡◌, ◌+◌, ◌-◌, ◌≤◌, length}
use Rattle.std.specs.Io.KnownBytes.{Consumes}
use Rattle.desk_edge.proofs.transfer.read_up_to.Given as goal

abbrev pub invariant-loop-chunk : goal.invariant-loop-chunk
invariant-loop-chunk g l = record {
  given : Consumes (g.L.Link.unread l.fn.link) (g.L.Link.unread l.link) l.bytes;
  within : length l.bytes ≤ l.limit + 1;
  output : g.L.Link.written l.link ≡ g.L.Link.written l.fn.link;
  count : g.L.Link.faults l.link ≡ g.L.Link.faults l.fn.link;
  read_count : g.L.Link.read_faults l.link ≡ g.L.Link.read_faults l.fn.link;
}

abbrev pub decreases-loop-chunk : goal.decreases-loop-chunk
decreases-loop-chunk g l = l.limit + 1 - length l.bytes
