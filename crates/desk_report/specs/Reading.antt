-- How an export file is read: its lines as they come.
use Rattle.std.specs.Prelude.{◌≡◌, ◌==◌, ℕ, ◌+◌, false, List, [], ◌∷◌, ◌++◌, Option, None, length, option_map}
use Rattle.std.specs.Result.{result_ok}
use Rattle.std.specs.List.{All, AllByRecursion, join_with_byte, slice_split}
use Rattle.desk_edge.specs.Content.{key_cmp, key_of}
use Rattle.desk_edge.specs.declared.record.Record.{Record}
use Rattle.desk_model.specs.Lists.{Lists}
use Rattle.desk_model.specs.declared.row.Row.{Row}
use Rattle.desk_records.specs.Records.{IsRecordOf}
use Rattle.desk_rows.specs.Rows.{IsByKey}
use Rattle.desk_text.specs.Number.{number_below}
use Rattle.desk_report.specs.Lines.{line_of, record_lines}

-- no byte is LF, with which a line ends
abbrev pub HasNoLineEnd : List ℕ → Type 0
HasNoLineEnd bytes = All (λ b. (b == 10) ≡ false) bytes

-- the kind that the digits write: a number below 256
abbrev pub kind_written : List ℕ → Option ℕ
kind_written digits = result_ok (number_below 256 digits)

-- the record of a line's fields: its kind, its code, and its body, which is the others
abbrev pub record_of_fields : List (List ℕ) → Option Record
record_of_fields (kind ∷ code ∷ field ∷ fields) =
    option_map (λ k. record { kind = k; code = code; body = join_with_byte 9 (field ∷ fields) }) (kind_written kind)
record_of_fields fields = None

-- the record whose line, without its LF, these bytes are
abbrev pub record_in : List ℕ → Option Record
record_in line = record_of_fields (slice_split (λ b. b == 9) line)

-- records of rows, in the order of their keys
pub record AreInOrder (records : List Record) : Type 0 where
  pub by_key : IsByKey key_of key_cmp records
  pub of_rows : AllByRecursion (λ kept. (row : Row) × IsRecordOf row kept) records

-- the line of this number is the first that isn't that of a row's record, with a key past those of the lines before it
pub record HasBadLine (bytes : List ℕ) (line : ℕ) : Type 0 where
  pub records : List Record
  pub before : AreInOrder records
  pub bad : List ℕ
  pub rest : List ℕ
  pub parts : bytes ≡ record_lines records ++ bad ++ 10 ∷ rest
  pub one_line : HasNoLineEnd bad
  pub number : line ≡ length records + 1
  pub is_bad : (kept : Record) → line_of kept ≡ bad ++ 10 ∷ [] → AreInOrder (records ++ kept ∷ []) → ⊥

-- lines of records, the tables that have them, and the beginning of one more line
pub record GoodRead : Type 0 where
  pub records : List Record
  pub tables : Lists
  pub held : List ℕ

-- the bytes are these lines, and the beginning of one more
abbrev pub IsReadTo : List ℕ → GoodRead → Type 0
IsReadTo bytes good = bytes ≡ record_lines good.records ++ good.held
