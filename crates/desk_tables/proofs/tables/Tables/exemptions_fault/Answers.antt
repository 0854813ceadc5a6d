use Rattle.std.proofs.Common.{sym, ap, ◌∙◌, length}
use Rattle.std.specs.Prelude.{nat_lt}
use Rattle.desk_model.specs.declared.limits.TheConstants.{EXEMPTION_LIMIT}
use Rattle.desk_tables.proofs.GoodRows.{exemption_breaks, overfull_exemption}
use Rattle.desk_tables.proofs.Telling.{from_exemptions}
use Rattle.desk_tables.proofs.tables.Tables.exemptions_fault.Goals as goal

pub rows_fault-requires-clause-breaks : goal.rows_fault-requires-clause-breaks
rows_fault-requires-clause-breaks c row bad = exemption_breaks c.args.self.now.lists row bad

pub rows_fault-requires-clause-full : goal.rows_fault-requires-clause-full
rows_fault-requires-clause-full c over row = overfull_exemption c.args.self.now.lists (ap (λ rows. nat_lt EXEMPTION_LIMIT (length rows)) (sym c.exemptions.ensures) ∙ over) row

pub returns-clause-told : goal.returns-clause-told
returns-clause-told c = from_exemptions c.args.self.now.lists _ c.exemptions.result.now c.exemptions.ensures c.rows_fault.result c.rows_fault.ensures
