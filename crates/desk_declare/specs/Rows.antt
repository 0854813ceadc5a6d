-- The rows of a text of comma-separated values.
use Rattle.std.specs.Prelude.{◌≡◌, ℕ, ◌+◌, true, false, List, [], length, Option, None, Some, is_some}
use Rattle.csv.specs.Machine.{ends_at_end}
use Rattle.csv.specs.Reading.{Ready, default_config, is_flexible, reader_config, reader_state, reader_trim, records, records_from, source_of, strip_bom}
use Rattle.csv.specs.declared.parser.State.{State}
use Rattle.csv.specs.declared.reader.Reader.{Reader}
use Rattle.csv.specs.declared.reader.Trim.TheVariants as trim
use Rattle.std.specs.Borrow.{Bor}

-- a row: its fields, each a list of bytes
abbrev pub Row : Type 0
Row = List (List ℕ)

-- the rows of a text: fields between commas, quoted by double quotes where need be, with no header
-- row and of any length each; one byte-order mark at the start of the text is no part of it
abbrev pub csv_rows_of : List ℕ → List Row
csv_rows_of bytes = records default_config (strip_bom bytes)

-- the rows that a text holds from a state of the reader on
abbrev pub rows_from : State → Option (List ℕ) → List Row
rows_from state None = []
rows_from state (Some bytes) = records_from default_config (length bytes + 1) state bytes

-- the bytes that a reader over a slice has left
abbrev pub bytes_left : Reader (Bor (List ℕ)) → Option (List ℕ)
bytes_left reader = source_of (λ s. Some s.now) reader

-- the rows that such a reader will give
unfoldable pub rows_left : Reader (Bor (List ℕ)) → List Row
rows_left reader = rows_from (reader_state reader) (bytes_left reader)

-- a reader that reads plain rows, and stands between two of them
pub record IsPlain (reader : Reader (Bor (List ℕ))) : Type 0 where
  pub config : reader_config reader ≡ default_config
  pub trim : reader_trim reader ≡ trim.None
  pub flexible : is_flexible reader ≡ true
  pub ready : Ready reader
  pub known : is_some (bytes_left reader) ≡ true
  pub between : ends_at_end (reader_state reader) ≡ false
