use Rattle.desk_sqlite.proofs.shelf.SqlShelfShelf.close_store.Goals as goal

pub returns-clause-lends : goal.returns-clause-lends
returns-clause-lends c other differ was = c.take.ensures.stay other differ was
