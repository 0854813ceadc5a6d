-- There is a seat as there was, and the counts of the doors were taken before they were opened.
use Rattle.std.proofs.Common.{◌≡◌, ◌≤◌, length}
use Rattle.desk_top.proofs.serving.serve_doors.Given as goal

abbrev pub invariant-rounds : goal.invariant-rounds
invariant-rounds g l = record {
  seats : 1 ≤ length l.seats;
  faults : l.faults ≡ g.D.Doors.faults l.fn.doors;
  taken : l.taken ≡ g.D.Doors.taken l.fn.doors;
}
