-- Tables that are put together row by row, without a test.
use Rattle.std.specs.Prelude.{List, [], ◌∷◌}
use Rattle.desk_model.specs.declared.row.Row.{Row}
use Rattle.desk_model.specs.Lists.{Lists}
use Rattle.desk_model.specs.PutRows.{put_in}

-- tables without a row
abbrev pub no_rows : Lists
no_rows = record {
  substances = [];
  members = [];
  materials = [];
  parts = [];
  lines = [];
  products = [];
  exemptions = [];
  candidates = [];
  shipments = [];
  tickets = [];
}

-- the tables with each of these rows put in, one after the other
abbrev pub with_all : List Row → Lists → Lists
with_all [] t = t
with_all (row ∷ rows) t = with_all rows (put_in row t)

-- the tables of these rows and no others
abbrev pub tables_of_rows : List Row → Lists
tables_of_rows rows = with_all rows no_rows
