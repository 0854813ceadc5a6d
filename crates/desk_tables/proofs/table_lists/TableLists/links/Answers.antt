use Rattle.desk_history.proofs.SoundClauses.{right_of}
use Rattle.desk_tables.proofs.table_lists.TableLists.links.Goals as goal

pub linked-requires-clause-children : goal.linked-requires-clause-children
linked-requires-clause-children c = right_of c.args.self.now c.requires
