-- The export file of a desk: a line for each record, in the order of their keys.
use Rattle.std.specs.Prelude.{◌≡◌, ℕ, List, [], ◌∷◌, length, map, slice_index_or}
use Rattle.desk_edge.specs.Content.{Content, IsSame, key_cmp, key_of}
use Rattle.desk_edge.specs.declared.record.Record.{Record}
use Rattle.desk_model.specs.Lists.{Lists}
use Rattle.desk_model.specs.declared.row.Row.{Row}
use Rattle.desk_model.specs.declared.row.Row.TheVariants.{Substance, Member, Material, Part, Line, Product, Exemption, Candidate, Shipment, Ticket}
use Rattle.desk_records.specs.Records.{content_in, record_of, tables_content}
use Rattle.desk_rows.specs.Rows.{IsByKey}
use Rattle.desk_report.specs.Lines.{record_lines}

-- the records of what a store keeps, all of them, in the order of their keys
pub record AreAllOf (content : Content) (records : List Record) : Type 0 where
  pub by_key : IsByKey key_of key_cmp records
  pub same : IsSame (content_in records) content

-- the bytes are the export file of these tables, of so many records
pub record IsFileOf (t : Lists) (number : ℕ) (bytes : List ℕ) : Type 0 where
  pub records : List Record
  pub all : AreAllOf (tables_content t) records
  pub lines : bytes ≡ record_lines records
  pub number_of : number ≡ length records

-- the records of the rows of a table, in the order of the rows
abbrev pub in_table : {R : Type 0} → (R → Row) → List R → List Record
in_table as_row rows = map record_of (map as_row rows)

-- the records of each of the ten tables
abbrev pub tables_in : Lists → List (List Record)
tables_in t =
    in_table Substance t.substances
    ∷ in_table Member t.members
    ∷ in_table Material t.materials
    ∷ in_table Part t.parts
    ∷ in_table Line t.lines
    ∷ in_table Product t.products
    ∷ in_table Exemption t.exemptions
    ∷ in_table Candidate t.candidates
    ∷ in_table Shipment t.shipments
    ∷ in_table Ticket t.tickets
    ∷ []

-- the records of the table at this place, counted from 0: none where there is no such table
abbrev pub table_at : Lists → ℕ → List Record
table_at t place = slice_index_or (tables_in t) place []
