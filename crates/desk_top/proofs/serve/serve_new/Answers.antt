-- Serving over a keeper of nothing is serving over the start tables, or didn't begin.
use Rattle.std.proofs.Common.{inr, refl}
use Rattle.desk_top.specs.Console.{console_step}
use Rattle.desk_top.proofs.ServedOver.{serving_opened}
use Rattle.desk_top.proofs.serve.serve_new.Goals as goal

pub returns-in-Ok-clause-unstored : goal.returns-in-Ok-clause-unstored
returns-in-Ok-clause-unstored g c = (
  _,
  rw c.new.ensures at (serving_opened _ _ _ _ _ 0 _ _
      (console_step g.L.Link.unread g.L.Link.written g.L.Link.faults c.args.console.now c.serve_desk.new.console)
      (λ tells. c.in-Ok.ensures.opened (c.serve_desk.ensures.told tells))
      (rw c.in-Ok.ensures.untouched at c.serve_desk.ensures.served)),
)

pub returns-in-Err-clause-unstored : goal.returns-in-Err-clause-unstored
returns-in-Err-clause-unstored g c = (_, inr (refl, rw c.new.ensures at c.in-Err.ensures.unopened))
