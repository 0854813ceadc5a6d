-- The requests up to here are answered, and the rest is still to be looked at.
use Rattle.std.proofs.Common.{◌≡◌, ◌≤◌, ◌-◌, drop, length}
use Rattle.desk_front.specs.Service.{GoesOn, service}
use Rattle.desk_front.proofs.stream.answer_all.Given as goal

abbrev pub invariant-requests : goal.invariant-requests
invariant-requests g l = record {
  within : l.used ≤ length l.bytes;
  goes : GoesOn g.A.Answerer.replies l.bytes (service l.fn.answerer l.fn.waiting (g.L.Link.written l.fn.link) (g.L.Link.faults l.fn.link))
      (service l.answerer l.waiting (g.L.Link.written l.link) (g.L.Link.faults l.link)) (drop l.used l.bytes);
  input : g.L.Link.unread l.link ≡ g.L.Link.unread l.fn.link;
}

abbrev pub decreases-requests : goal.decreases-requests
decreases-requests g l = length l.bytes - l.used
