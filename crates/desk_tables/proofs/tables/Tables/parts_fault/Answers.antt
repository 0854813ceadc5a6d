use Rattle.std.proofs.Common.{sym, ap, ◌∙◌, length}
use Rattle.std.specs.Prelude.{nat_lt}
use Rattle.desk_model.specs.declared.limits.TheConstants.{PART_LIMIT}
use Rattle.desk_tables.proofs.GoodRows.{part_breaks, overfull_part}
use Rattle.desk_tables.proofs.Telling.{from_parts}
use Rattle.desk_tables.proofs.tables.Tables.parts_fault.Goals as goal

pub rows_fault-requires-clause-breaks : goal.rows_fault-requires-clause-breaks
rows_fault-requires-clause-breaks c row bad = part_breaks c.args.self.now.lists row bad

pub rows_fault-requires-clause-full : goal.rows_fault-requires-clause-full
rows_fault-requires-clause-full c over row = overfull_part c.args.self.now.lists (ap (λ rows. nat_lt PART_LIMIT (length rows)) (sym c.parts.ensures) ∙ over) row

pub returns-clause-told : goal.returns-clause-told
returns-clause-told c = from_parts c.args.self.now.lists _ c.parts.result.now c.parts.ensures c.rows_fault.result c.rows_fault.ensures
