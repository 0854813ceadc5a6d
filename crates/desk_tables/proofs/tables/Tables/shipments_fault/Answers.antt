use Rattle.std.proofs.Common.{sym, ap, ◌∙◌, length}
use Rattle.std.specs.Prelude.{nat_lt}
use Rattle.desk_model.specs.declared.limits.TheConstants.{SHIPMENT_LIMIT}
use Rattle.desk_tables.proofs.GoodRows.{shipment_breaks, overfull_shipment}
use Rattle.desk_tables.proofs.Telling.{from_shipments}
use Rattle.desk_tables.proofs.tables.Tables.shipments_fault.Goals as goal

pub rows_fault-requires-clause-breaks : goal.rows_fault-requires-clause-breaks
rows_fault-requires-clause-breaks c row bad = shipment_breaks c.args.self.now.lists row bad

pub rows_fault-requires-clause-full : goal.rows_fault-requires-clause-full
rows_fault-requires-clause-full c over row = overfull_shipment c.args.self.now.lists (ap (λ rows. nat_lt SHIPMENT_LIMIT (length rows)) (sym c.shipments.ensures) ∙ over) row

pub returns-clause-told : goal.returns-clause-told
returns-clause-told c = from_shipments c.args.self.now.lists _ c.shipments.result.now c.shipments.ensures c.rows_fault.result c.rows_fault.ensures
