-- The ten tables: their numbers, how many rows each may hold, and which table a row is of.
use Rattle.std.specs.Prelude.{ℕ, List, [], ◌∷◌, length}
use Rattle.desk_model.specs.declared.limits.TheConstants.{SUBSTANCE_LIMIT, MEMBER_LIMIT, MATERIAL_LIMIT, PART_LIMIT, LINE_LIMIT}
use Rattle.desk_model.specs.declared.limits.TheConstants.{PRODUCT_LIMIT, EXEMPTION_LIMIT, CANDIDATE_LIMIT, SHIPMENT_LIMIT, TICKET_LIMIT}
use Rattle.desk_model.specs.declared.row.Row.{Row}
use Rattle.desk_model.specs.declared.row.Row.TheVariants.{Substance, Member, Material, Part, Line, Product, Exemption, Candidate, Shipment, Ticket}
use Rattle.desk_model.specs.declared.table_name.TableName.{TableName}
use Rattle.desk_model.specs.declared.table_name.TableName.TheVariants.{Substances, Members, Materials, Parts, Lines, Products, Exemptions, Candidates, Shipments, Tickets}
use Rattle.desk_model.specs.Lists.{Lists}

-- the number of a table
abbrev pub number_of_table : TableName → ℕ
number_of_table Substances = 1
number_of_table Members = 2
number_of_table Materials = 3
number_of_table Parts = 4
number_of_table Lines = 5
number_of_table Products = 6
number_of_table Exemptions = 7
number_of_table Candidates = 8
number_of_table Shipments = 9
number_of_table Tickets = 10

-- every table, in the order of the numbers
abbrev pub all_tables : List TableName
all_tables =
    Substances ∷ Members ∷ Materials ∷ Parts ∷ Lines ∷ Products ∷ Exemptions ∷ Candidates ∷ Shipments ∷ Tickets ∷ []

-- the greatest number of rows that a table may hold
abbrev pub table_limit : TableName → ℕ
table_limit Substances = SUBSTANCE_LIMIT
table_limit Members = MEMBER_LIMIT
table_limit Materials = MATERIAL_LIMIT
table_limit Parts = PART_LIMIT
table_limit Lines = LINE_LIMIT
table_limit Products = PRODUCT_LIMIT
table_limit Exemptions = EXEMPTION_LIMIT
table_limit Candidates = CANDIDATE_LIMIT
table_limit Shipments = SHIPMENT_LIMIT
table_limit Tickets = TICKET_LIMIT

-- the table that a row is of
abbrev pub table_of : Row → TableName
table_of (Substance row) = Substances
table_of (Member row) = Members
table_of (Material row) = Materials
table_of (Part row) = Parts
table_of (Line row) = Lines
table_of (Product row) = Products
table_of (Exemption row) = Exemptions
table_of (Candidate row) = Candidates
table_of (Shipment row) = Shipments
table_of (Ticket row) = Tickets

-- how many rows a table holds
abbrev pub row_count : Lists → TableName → ℕ
row_count t Substances = length t.substances
row_count t Members = length t.members
row_count t Materials = length t.materials
row_count t Parts = length t.parts
row_count t Lines = length t.lines
row_count t Products = length t.products
row_count t Exemptions = length t.exemptions
row_count t Candidates = length t.candidates
row_count t Shipments = length t.shipments
row_count t Tickets = length t.tickets
