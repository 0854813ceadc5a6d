-- The rows of all ten tables as one list: each has the number of its table, and a code that names it there.
use Rattle.std.specs.Prelude.{ℕ, List, ◌++◌, codes, decimal, map}
use Rattle.desk_law.specs.Rule.{rule_code}
use Rattle.desk_model.specs.declared.row.Row.{Row}
use Rattle.desk_model.specs.declared.row.Row.TheVariants.{Substance, Member, Material, Part, Line, Product, Exemption, Candidate, Shipment, Ticket}
use Rattle.desk_model.specs.Lists.{Lists}
use Rattle.desk_model.specs.Tables.{number_of_table, table_of}

-- the number of a row's table
unfoldable pub table_number : Row → ℕ
table_number row = number_of_table (table_of row)

-- two parts of a key as one code
abbrev pub pair_code : List ℕ → List ℕ → List ℕ
pair_code first second = first ++ codes "/" ++ second

-- the code under which a row is kept as a record, and by which a fault names it
unfoldable pub record_code : Row → List ℕ
record_code (Substance row) = row.code
record_code (Member row) = pair_code row.substance (rule_code row.rule)
record_code (Material row) = row.code
record_code (Part row) = row.code
record_code (Line row) = pair_code row.parent row.child
record_code (Product row) = row.part
record_code (Exemption row) = row.terms.row
record_code (Candidate row) = row.substance
record_code (Shipment row) = pair_code (decimal row.year) row.product
record_code (Ticket row) = row.code

-- the rows of all tables, table after table
unfoldable pub rows_of : Lists → List Row
rows_of t =
    map Substance t.substances
    ++ map Member t.members
    ++ map Material t.materials
    ++ map Part t.parts
    ++ map Line t.lines
    ++ map Product t.products
    ++ map Exemption t.exemptions
    ++ map Candidate t.candidates
    ++ map Shipment t.shipments
    ++ map Ticket t.tickets
