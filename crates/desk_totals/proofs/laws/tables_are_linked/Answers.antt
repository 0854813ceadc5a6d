use Rattle.desk_totals.proofs.ForTables.{linked_from_tables}
use Rattle.desk_totals.proofs.laws.tables_are_linked.Goals as goal

pub returns : goal.returns
returns c t bill of ordered apart parents children = linked_from_tables bill t of ordered apart parents children
