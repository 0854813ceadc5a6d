-- A session over an opened store is one over the store of that name.
use Rattle.std.proofs.Common.{inl, inr, sym}
use Rattle.desk_top.specs.Console.{console_step}
use Rattle.desk_top.proofs.Stores.{ends_as, ends_opened}
use Rattle.desk_top.proofs.session.serve_store.Goals as goal

pub returns-in-Err-clause-stored : goal.returns-in-Err-clause-stored
returns-in-Err-clause-stored g c =
    let (faults, was, told, lost, counted) = c.in-Err.ensures.unopened in
    (faults, inr was, told, lost, counted)

pub returns-clause-stored : goal.returns-clause-stored
returns-clause-stored g c = (
  _,
  ends_as _ _ _ _ _ _ _ _ (λ tells. (c.close_store.ensures.kept tells).0) (λ tells. (c.close_store.ensures.kept tells).1)
      (ends_opened _ _ _ _ _ _
      (console_step g.L.Link.unread g.L.Link.written g.L.Link.faults c.args.link.now c.serve_desk-status.new.link)
      (λ tells. c.in-Ok.ensures.opened (c.serve_desk-status.ensures.told tells))
      (rw c.in-Ok.ensures.untouched at c.serve_desk-status.ensures.served)),
  (λ tells. c.in-Ok.ensures.told (c.serve_desk-status.ensures.told (c.close_store.ensures.kept tells).0)),
  (λ some. rw (← c.in-Ok.ensures.counted) (c.close_store.ensures.faults.rises some)),
  inl (sym c.close_store.ensures.count),
)
