-- The tables as contracts see them: the ten lists, which all clauses speak of, and beside them the room of each list, which the
-- condition of a commit alone speaks of.
use Rattle.std.specs.Prelude.{ℕ}
use Rattle.desk_model.specs.Lists.{Lists}
use Rattle.desk_tables.specs.declared.ten_tables.TenTables.{TenTables}

-- how many more rows each table takes without memory
pub record Rooms : Type 0 where
  pub substances : ℕ
  pub members : ℕ
  pub materials : ℕ
  pub parts : ℕ
  pub lines : ℕ
  pub products : ℕ
  pub exemptions : ℕ
  pub candidates : ℕ
  pub shipments : ℕ
  pub tickets : ℕ

-- the lists and their rooms
pub record Desk : Type 0 where
  pub lists : Lists
  pub rooms : Rooms

-- the lists of ten tables, and their rooms
abbrev pub desk_of : TenTables → Desk
desk_of t = record {
  lists = record {
    substances = t.substances.rows;
    members = t.members.rows;
    materials = t.materials.rows;
    parts = t.parts.rows;
    lines = t.lines.rows;
    products = t.products.rows;
    exemptions = t.exemptions.rows;
    candidates = t.candidates.rows;
    shipments = t.shipments.rows;
    tickets = t.tickets.rows;
  };
  rooms = record {
    substances = t.substances.room;
    members = t.members.room;
    materials = t.materials.room;
    parts = t.parts.room;
    lines = t.lines.room;
    products = t.products.room;
    exemptions = t.exemptions.room;
    candidates = t.candidates.room;
    shipments = t.shipments.room;
    tickets = t.tickets.room;
  };
}
