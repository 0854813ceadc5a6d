-- An import into an opened store is one into the store of that name.
use Rattle.std.proofs.Common.{inl, sym}
use Rattle.desk_top.proofs.Imports.{import_as, not_lent}
use Rattle.desk_top.proofs.import.answer_import.Goals as goal

pub returns-in-Err-clause-stored : goal.returns-in-Err-clause-stored
returns-in-Err-clause-stored g c =
    not_lent _ _ _ _ _ _ c.in-Err.status _ c.in-Err.ensures.status c.in-Err.ensures.failed c.in-Err.ensures.store_line c.in-Err.ensures.memory_line
    c.in-Err.ensures.input_stays (c.open_store.ensures.others c.args.asked.now.store)

pub returns-clause-stored : goal.returns-clause-stored
returns-clause-stored g c = rw (← c.as_slice-name.ensures) (
  _,
  import_as (g.S.Shelf.Tells c.close_store.new.self c.as_slice-name.result.now) (g.S.Store.Keeper.Tells c.fill-status.new.keeper)
      (g.S.Shelf.content c.args.shelf.now c.as_slice-name.result.now) (g.S.Store.Keeper.content c.in-Ok.store)
      (g.S.Store.Keeper.content c.fill-status.new.keeper) (g.S.Shelf.content c.close_store.new.self c.as_slice-name.result.now) _ _ _
      (λ tells. (c.close_store.ensures.kept tells).0)
      (λ tells. c.in-Ok.ensures.same (c.fill-status.ensures.told (c.close_store.ensures.kept tells).0))
      (λ tells. (c.close_store.ensures.kept tells).1) (rw c.in-Ok.ensures.untouched at c.fill-status.ensures.ends),
  (λ tells. c.in-Ok.ensures.told (c.fill-status.ensures.told (c.close_store.ensures.kept tells).0)),
  (λ some. rw (← c.in-Ok.ensures.counted) (c.close_store.ensures.faults.rises some)),
  inl (sym c.close_store.ensures.count),
)
