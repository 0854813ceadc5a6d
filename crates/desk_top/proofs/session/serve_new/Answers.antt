-- A session over a keeper of nothing is served over the start tables, or didn't begin.
use Rattle.std.proofs.Common.{inr}
use Rattle.desk_top.specs.Console.{console_step}
use Rattle.desk_top.proofs.Stores.{ends_opened}
use Rattle.desk_top.proofs.session.serve_new.Goals as goal

pub returns-in-Ok-clause-unstored : goal.returns-in-Ok-clause-unstored
returns-in-Ok-clause-unstored g c = (
  _,
  rw c.new.ensures at (ends_opened _ _ _ _ _ _
      (console_step g.L.Link.unread g.L.Link.written g.L.Link.faults c.args.link.now c.serve_desk.new.link)
      (λ tells. c.in-Ok.ensures.opened (c.serve_desk.ensures.told tells))
      (rw c.in-Ok.ensures.untouched at c.serve_desk.ensures.served)),
)

pub returns-in-Err-clause-unstored : goal.returns-in-Err-clause-unstored
returns-in-Err-clause-unstored g c = (_, inr (rw c.new.ensures at c.in-Err.ensures.unopened))
