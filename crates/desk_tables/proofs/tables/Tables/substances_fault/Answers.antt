use Rattle.std.proofs.Common.{sym, ap, ◌∙◌, length}
use Rattle.std.specs.Prelude.{nat_lt}
use Rattle.desk_model.specs.declared.limits.TheConstants.{SUBSTANCE_LIMIT}
use Rattle.desk_tables.proofs.GoodRows.{substance_breaks, overfull_substance}
use Rattle.desk_tables.proofs.Telling.{from_substances}
use Rattle.desk_tables.proofs.tables.Tables.substances_fault.Goals as goal

pub rows_fault-requires-clause-breaks : goal.rows_fault-requires-clause-breaks
rows_fault-requires-clause-breaks c row bad = substance_breaks c.args.self.now.lists row bad

pub rows_fault-requires-clause-full : goal.rows_fault-requires-clause-full
rows_fault-requires-clause-full c over row = overfull_substance c.args.self.now.lists (ap (λ rows. nat_lt SUBSTANCE_LIMIT (length rows)) (sym c.substances.ensures) ∙ over) row

pub returns-clause-told : goal.returns-clause-told
returns-clause-told c = from_substances c.args.self.now.lists _ c.substances.result.now c.substances.ensures c.rows_fault.result c.rows_fault.ensures
