-- What holds of each of the ten tables holds of every table.
use Rattle.std.specs.List.{AllByRecursion}
use Rattle.desk_model.specs.declared.table_name.TableName.{TableName}
use Rattle.desk_model.specs.declared.table_name.TableName.TheVariants.{Substances, Members, Materials, Parts, Lines, Products, Exemptions, Candidates, Shipments, Tickets}
use Rattle.desk_model.specs.Tables.{all_tables}

pub each_table : (P : TableName → Type 0) → AllByRecursion P all_tables → (table : TableName) → P table
each_table P a Substances = a.0
each_table P a Members = a.1.0
each_table P a Materials = a.1.1.0
each_table P a Parts = a.1.1.1.0
each_table P a Lines = a.1.1.1.1.0
each_table P a Products = a.1.1.1.1.1.0
each_table P a Exemptions = a.1.1.1.1.1.1.0
each_table P a Candidates = a.1.1.1.1.1.1.1.0
each_table P a Shipments = a.1.1.1.1.1.1.1.1.0
each_table P a Tickets = a.1.1.1.1.1.1.1.1.1.0
