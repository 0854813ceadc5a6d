-- How many rows each table has.
use Rattle.std.specs.Prelude.{length}
use Rattle.desk_model.specs.Lists.{Lists}
use Rattle.desk_tables.specs.declared.counts.RowCounts.{RowCounts}

-- the number of rows of each table
abbrev pub counts_of : Lists → RowCounts
counts_of t = record {
  substances = length t.substances;
  members = length t.members;
  materials = length t.materials;
  parts = length t.parts;
  lines = length t.lines;
  products = length t.products;
  exemptions = length t.exemptions;
  candidates = length t.candidates;
  shipments = length t.shipments;
  tickets = length t.tickets;
}
