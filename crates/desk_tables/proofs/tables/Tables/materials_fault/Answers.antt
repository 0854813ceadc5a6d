use Rattle.std.proofs.Common.{sym, ap, ◌∙◌, length}
use Rattle.std.specs.Prelude.{nat_lt}
use Rattle.desk_model.specs.declared.limits.TheConstants.{MATERIAL_LIMIT}
use Rattle.desk_tables.proofs.GoodRows.{material_breaks, overfull_material}
use Rattle.desk_tables.proofs.Telling.{from_materials}
use Rattle.desk_tables.proofs.tables.Tables.materials_fault.Goals as goal

pub rows_fault-requires-clause-breaks : goal.rows_fault-requires-clause-breaks
rows_fault-requires-clause-breaks c row bad = material_breaks c.args.self.now.lists row bad

pub rows_fault-requires-clause-full : goal.rows_fault-requires-clause-full
rows_fault-requires-clause-full c over row = overfull_material c.args.self.now.lists (ap (λ rows. nat_lt MATERIAL_LIMIT (length rows)) (sym c.materials.ensures) ∙ over) row

pub returns-clause-told : goal.returns-clause-told
returns-clause-told c = from_materials c.args.self.now.lists _ c.materials.result.now c.materials.ensures c.rows_fault.result c.rows_fault.ensures
