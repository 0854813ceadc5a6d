use Rattle.std.proofs.Common.{sym, ap, ◌∙◌, length}
use Rattle.std.specs.Prelude.{nat_lt}
use Rattle.desk_model.specs.declared.limits.TheConstants.{PRODUCT_LIMIT}
use Rattle.desk_tables.proofs.GoodRows.{product_breaks, overfull_product}
use Rattle.desk_tables.proofs.Telling.{from_products}
use Rattle.desk_tables.proofs.tables.Tables.products_fault.Goals as goal

pub rows_fault-requires-clause-breaks : goal.rows_fault-requires-clause-breaks
rows_fault-requires-clause-breaks c row bad = product_breaks c.args.self.now.lists row bad

pub rows_fault-requires-clause-full : goal.rows_fault-requires-clause-full
rows_fault-requires-clause-full c over row = overfull_product c.args.self.now.lists (ap (λ rows. nat_lt PRODUCT_LIMIT (length rows)) (sym c.products.ensures) ∙ over) row

pub returns-clause-told : goal.returns-clause-told
returns-clause-told c = from_products c.args.self.now.lists _ c.products.result.now c.products.ensures c.rows_fault.result c.rows_fault.ensures
