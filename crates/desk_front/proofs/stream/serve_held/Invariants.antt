-- What was read so far is answered, but for what is held, which is no whole request.
use Rattle.std.proofs.Common.{[]}
use Rattle.desk_front.specs.Service.{service}
use Rattle.desk_front.proofs.Serving.{Reading}
use Rattle.desk_front.proofs.stream.serve_held.Given as goal

abbrev pub invariant-reads : goal.invariant-reads
invariant-reads g l = Reading g.A.Answerer.replies l.left (g.L.Link.unread l.fn.link) (g.L.Link.unread l.link)
    (service l.fn.answerer [] (g.L.Link.written l.fn.link) (g.L.Link.faults l.fn.link))
    (service l.answerer l.waiting (g.L.Link.written l.link) (g.L.Link.faults l.link)) l.held

abbrev pub decreases-reads : goal.decreases-reads
decreases-reads g l = l.left
