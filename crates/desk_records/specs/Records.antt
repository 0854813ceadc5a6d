-- The tables as records: a record for each row, under the number of the row's table and the row's code.
use Rattle.std.specs.Prelude.{◌≡◌, ◌⊎◌, ◌&&◌, Bool, true, List, [], ◌∷◌, map, option_map}
use Rattle.std.specs.Ordering.{is_lt}
use Rattle.desk_edge.specs.Content.{Content, key_cmp, key_of}
use Rattle.desk_edge.specs.declared.key.Key.{Key}
use Rattle.desk_edge.specs.declared.record.Record.{Record}
use Rattle.desk_fields.specs.RowTexts.{HasVersion, IsRowInForm, has_texts}
use Rattle.desk_model.specs.declared.row.Row.{Row}
use Rattle.desk_model.specs.Lists.{Lists}
use Rattle.desk_model.specs.RowTexts.{body_text}
use Rattle.desk_model.specs.Rows.{record_code, rows_of, table_number}
use Rattle.desk_rows.specs.Rows.{row_of}

-- the record of a row: its table's number, its code and its text
abbrev pub record_of : Row → Record
record_of row = record { kind = table_number row; code = record_code row; body = body_text row }

-- the record is this row's, whose values are of their form and in their range
pub record IsRecordOf (row : Row) (kept : Record) : Type 0 where
  pub form : IsRowInForm row
  pub is_written : kept ≡ record_of row

-- no row has this record
abbrev pub IsOfNoRow : Record → Type 0
IsOfNoRow kept = (row : Row) → IsRecordOf row kept → ⊥

-- the record is of another version than those of rows
abbrev pub IsOfOtherVersion : Record → Type 0
IsOfOtherVersion kept = HasVersion kept.body → ⊥

-- the record is of their version, and yet no row has it
abbrev pub HasNoRow : Record → Type 0
HasNoRow kept = HasVersion kept.body × IsOfNoRow kept

-- the record is of their version, and memory is taken for it: as it is read, or for the row that has it
abbrev pub TakesMemory : Record → Type 0
TakesMemory kept = HasVersion kept.body × ((has_texts kept.kind ≡ true) ⊎ ((row : Row) × IsRecordOf row kept))

-- the records of the tables, table after table, and those of each in the order of its key
abbrev pub records_of : Lists → List Record
records_of t = map record_of (rows_of t)

-- what a store of these records keeps under each key
abbrev pub content_in : List Record → Content
content_in records key = option_map (λ kept. kept.body) (row_of key_of key_cmp key records)

-- what a store of the tables keeps under each key
abbrev pub tables_content : Lists → Content
tables_content t key = content_in (records_of t) key

-- the key comes after those of all the records
abbrev pub is_past_all : List Record → Key → Bool
is_past_all [] key = true
is_past_all (kept ∷ records) key = is_lt (key_cmp (key_of kept) key) && is_past_all records key
