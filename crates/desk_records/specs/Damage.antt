-- Records as the tables of their rows, and by which key those are told that aren't the records of sound tables.
use Rattle.std.specs.Prelude.{◌≡◌, ◌⊎◌, ℕ, ◌+◌, List, map}
use Rattle.std.specs.List.{AllByRecursion, Any}
use Rattle.desk_edge.specs.Content.{IsSame}
use Rattle.desk_edge.specs.declared.record.Record.{Record}
use Rattle.desk_fields.specs.RowTexts.{IsRowInForm}
use Rattle.desk_history.specs.Breaches.{IsBrokenAt}
use Rattle.desk_history.specs.Sound.{Sound}
use Rattle.desk_model.specs.Lists.{IsOrdered, Lists}
use Rattle.desk_model.specs.Rows.{rows_of}
use Rattle.desk_model.specs.declared.limits.TheConstants.{SUBSTANCE_LIMIT, MEMBER_LIMIT, MATERIAL_LIMIT, PART_LIMIT, LINE_LIMIT}
use Rattle.desk_model.specs.declared.limits.TheConstants.{PRODUCT_LIMIT, EXEMPTION_LIMIT, CANDIDATE_LIMIT, SHIPMENT_LIMIT, TICKET_LIMIT}
use Rattle.desk_model.specs.declared.row.Row.{Row}
use Rattle.desk_tables.specs.Gathered.{tables_of_rows}
use Rattle.desk_records.specs.Records.{HasNoRow, IsOfOtherVersion, content_in, record_of, tables_content}

-- the tables are those of the rows that have these records, put in one after the other
pub record AreTablesOf (records : List Record) (lists : Lists) : Type 0 where
  pub rows : List Row
  pub are_written : records ≡ map record_of rows
  pub forms : AllByRecursion IsRowInForm rows
  pub are_gathered : lists ≡ tables_of_rows rows

-- the most records that sound tables have: each table has at most its limit of rows
abbrev pub record_limit : ℕ
record_limit =
    SUBSTANCE_LIMIT + MEMBER_LIMIT + MATERIAL_LIMIT + PART_LIMIT + LINE_LIMIT + PRODUCT_LIMIT + EXEMPTION_LIMIT + CANDIDATE_LIMIT
    + SHIPMENT_LIMIT + TICKET_LIMIT

-- of one of the records, under this key, this holds
abbrev pub HasAt : (Record → Type 0) → List Record → ℕ → List ℕ → Type 0
HasAt Holds records kind code = Any (λ kept. (kept.kind ≡ kind) × (kept.code ≡ code) × Holds kept) records

-- one of the records, under this key, is of another version than those of rows
abbrev pub HasOtherVersionAt : List Record → ℕ → List ℕ → Type 0
HasOtherVersionAt = HasAt IsOfOtherVersion

-- one of the records, under this key, is of their version, and yet no row has it
abbrev pub HasNoRowAt : List Record → ℕ → List ℕ → Type 0
HasNoRowAt = HasAt HasNoRow

-- the records are those of tables in order and in form of which this key breaks a clause of soundness
abbrev pub IsUnsoundAt : List Record → ℕ → List ℕ → Type 0
IsUnsoundAt records kind code =
    (t : Lists) × IsOrdered t × AllByRecursion IsRowInForm (rows_of t) × IsSame (tables_content t) (content_in records) × IsBrokenAt t kind code

-- the key is that of a record of another version, or of one that no row has, or it breaks a clause of soundness
abbrev pub IsDamage : List Record → ℕ → List ℕ → Type 0
IsDamage records kind code = HasOtherVersionAt records kind code ⊎ HasNoRowAt records kind code ⊎ IsUnsoundAt records kind code

-- no sound tables keep these records and no others
abbrev pub AreOfNoTables : List Record → Type 0
AreOfNoTables records = (t : Lists) → Sound t → IsSame (content_in records) (tables_content t) → ⊥
