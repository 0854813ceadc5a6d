-- The tables after a change of rows, of which no copy is made.
use Rattle.std.specs.Prelude.{List, [], Option, Some, None}
use Rattle.desk_model.specs.Lists.{Lists}
use Rattle.desk_model.specs.declared.rows.material.MaterialRow.{MaterialRow}
use Rattle.desk_tables.specs.Change.{with_change_made}
use Rattle.desk_tables.specs.declared.row_change.RowChange.{RowChange}
use Rattle.desk_tables.specs.declared.row_change.RowChange.TheVariants as change

-- the tables with the change made, if there is one
abbrev pub changed_if : Lists → Option RowChange → Lists
changed_if t None = t
changed_if t (Some change) = with_change_made t change

-- the materials that the change puts in
abbrev pub put_materials : RowChange → List MaterialRow
put_materials (change.PutMaterials rows room) = rows
put_materials _ = []

-- the same, where there is a change
abbrev pub put_materials_if : Option RowChange → List MaterialRow
put_materials_if None = []
put_materials_if (Some change) = put_materials change
