-- What is opened of a store is opened of what the shelf keeps under its name.
use Rattle.std.proofs.Common.{inl, sym}
use Rattle.desk_top.proofs.Stores.{not_lent, opened_as, unbegun_as}
use Rattle.desk_top.proofs.store.open_desk.Goals as goal

pub returns-in-Err-clause-unopened : goal.returns-in-Err-clause-unopened
returns-in-Err-clause-unopened g c =
    not_lent _ _ _ _ _ _ c.in-Err.status _ c.in-Err.ensures.status c.in-Err.ensures.failed c.in-Err.ensures.store_line c.in-Err.ensures.memory_line
    c.open_store.ensures.input_stays (c.open_store.ensures.others c.args.name.now)

pub returns-in-Ok-open_keeper-clause-opened : goal.returns-in-Ok-open_keeper-clause-opened
returns-in-Ok-open_keeper-clause-opened g c tells =
    opened_as _ _ _ (c.in-Ok.ensures.same (c.in-Ok-open_keeper.ensures.told tells)) (c.in-Ok-open_keeper.ensures.opened tells)

pub returns-in-Err-open_keeper-clause-unopened : goal.returns-in-Err-open_keeper-clause-unopened
returns-in-Err-open_keeper-clause-unopened g c = (
  _,
  unbegun_as (g.S.Shelf.Tells c.close_store.new.self c.args.name.now) (g.S.Store.Keeper.Tells c.in-Err-open_keeper.store)
      (g.S.Shelf.content c.args.shelf.now c.args.name.now) (g.S.Store.Keeper.content c.in-Ok.store)
      (g.S.Store.Keeper.content c.in-Err-open_keeper.store) (g.S.Shelf.content c.close_store.new.self c.args.name.now) _ _ _
      (λ tells. (c.close_store.ensures.kept tells).0)
      (λ tells. c.in-Ok.ensures.same (c.in-Err-open_keeper.ensures.handed_back (c.close_store.ensures.kept tells).0).0)
      (λ tells. (c.close_store.ensures.kept tells).1) (rw c.in-Ok.ensures.untouched at c.in-Err-open_keeper.ensures.unopened),
  (λ tells. c.in-Ok.ensures.told (c.in-Err-open_keeper.ensures.handed_back (c.close_store.ensures.kept tells).0).0),
  (λ some. rw (← c.in-Ok.ensures.counted) (c.close_store.ensures.faults.rises some)),
  inl (sym c.close_store.ensures.count),
)
