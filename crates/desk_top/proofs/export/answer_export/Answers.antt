-- What is exported is the desk that the store was opened as.
use Rattle.std.proofs.Common.{ap, inl, sym, ◌∙◌}
use Rattle.desk_clerk.specs.Clerk.{tables_of}
use Rattle.desk_records.specs.Records.{tables_content}
use Rattle.desk_top.proofs.Stores.{keeps_of, same_trans}
use Rattle.desk_top.proofs.export.answer_export.Goals as goal

pub returns-clause-stored : goal.returns-clause-stored
returns-clause-stored g c = rw (← c.as_slice-name.ensures) (
  _,
  inl (
    tables_of c.in-Ok.desk,
    (λ tells. c.in-Ok.ensures.opened (rw c.close.ensures.keeper at (c.close_store.ensures.kept tells).0)),
    record {
      sound = c.tables.ensures.sound;
      unread = keeps_of _ _ (c.write_export-status.ensures.input_stays ∙ ap g.L.Link.unread c.in-Ok.ensures.untouched);
      closed = λ tells. same_trans (tables_content (tables_of c.in-Ok.desk)) (g.S.Store.Keeper.content c.close.result)
          (g.S.Shelf.content c.close_store.new.self c.as_slice-name.result.now)
          (c.close.ensures.kept (c.close_store.ensures.kept tells).0) (c.close_store.ensures.kept tells).1;
    },
    rw c.in-Ok.ensures.untouched at (rw c.tables.ensures.lists at c.write_export-status.ensures.written),
  ),
  (λ tells. c.in-Ok.ensures.told (rw c.close.ensures.keeper at (c.close_store.ensures.kept tells).0)),
  (λ some. rw (← c.in-Ok.ensures.counted) (c.close_store.ensures.faults.rises some)),
  inl (sym c.close_store.ensures.count),
)
