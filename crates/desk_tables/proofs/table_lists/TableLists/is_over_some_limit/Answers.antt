use Rattle.desk_tables.proofs.FoundParts.{over_at, over_nowhere}
use Rattle.desk_tables.proofs.table_lists.TableLists.is_over_some_limit.Goals as goal

pub returns-in-Ok : goal.returns-in-Ok
returns-in-Ok c = over_at c.args.self.now c.materials.result.now c.args.counts.now c.args.code.now c.in-Ok.place c.materials.ensures c.requires.counts c.in-Ok.ensures

pub returns-in-Err : goal.returns-in-Err
returns-in-Err c = over_nowhere c.args.self.now c.materials.result.now c.args.code.now _ c.materials.ensures c.in-Err.ensures
