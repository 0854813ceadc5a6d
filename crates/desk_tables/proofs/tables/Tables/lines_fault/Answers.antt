use Rattle.std.proofs.Common.{sym, ap, ◌∙◌, length}
use Rattle.std.specs.Prelude.{nat_lt}
use Rattle.desk_model.specs.declared.limits.TheConstants.{LINE_LIMIT}
use Rattle.desk_tables.proofs.GoodRows.{line_breaks, overfull_line}
use Rattle.desk_tables.proofs.Telling.{from_lines}
use Rattle.desk_tables.proofs.tables.Tables.lines_fault.Goals as goal

pub rows_fault-requires-clause-breaks : goal.rows_fault-requires-clause-breaks
rows_fault-requires-clause-breaks c row bad = line_breaks c.args.self.now.lists row bad

pub rows_fault-requires-clause-full : goal.rows_fault-requires-clause-full
rows_fault-requires-clause-full c over row = overfull_line c.args.self.now.lists (ap (λ rows. nat_lt LINE_LIMIT (length rows)) (sym c.lines.ensures) ∙ over) row

pub returns-clause-told : goal.returns-clause-told
returns-clause-told c = from_lines c.args.self.now.lists _ c.lines.result.now c.lines.ensures c.rows_fault.result c.rows_fault.ensures
