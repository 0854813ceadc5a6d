-- What an import reads, and what it leaves.
use Rattle.std.specs.Prelude.{◌≡◌, ◌≢◌, ◌⊎◌, ℕ, ◌+◌, ◌≤◌, List, [], ◌++◌, Option, length}
use Rattle.std.specs.Io.KnownBytes.{Consumes, IsAtEnd}
use Rattle.desk_edge.specs.Content.{key_cmp, key_of}
use Rattle.desk_edge.specs.declared.record.Record.{Record}
use Rattle.desk_records.specs.Damage.{AreOfNoTables, IsUnsoundAt}
use Rattle.desk_rows.specs.Rows.{IsByKey}
use Rattle.desk_report.specs.Lines.{record_lines}
use Rattle.desk_report.specs.Reading.{AreInOrder, HasBadLine, HasNoLineEnd}

-- the most bytes of an export file that is read
abbrev pub import_limit : ℕ
import_limit = 268435456

-- the input, which was read to its end, is the lines of these records, in the order of their keys
pub record IsRead (old new : Option (List ℕ)) (records : List Record) : Type 0 where
  pub bytes : List ℕ
  pub given : Consumes old new bytes
  pub at_end : IsAtEnd new
  pub within : length bytes ≤ import_limit
  pub lines : bytes ≡ record_lines records
  pub by_key : IsByKey key_of key_cmp records

-- all lines are good but the last, of this number, which has no LF
pub record EndsInside (bytes : List ℕ) (line : ℕ) : Type 0 where
  pub records : List Record
  pub before : AreInOrder records
  pub held : List ℕ
  pub parts : bytes ≡ record_lines records ++ held
  pub some : held ≢ []
  pub one_line : HasNoLineEnd held
  pub number : line ≡ length records + 1

-- all lines are good, but some row breaks a clause of soundness, and no sound tables have their records
pub record AreUnsound (bytes : List ℕ) : Type 0 where
  pub records : List Record
  pub before : AreInOrder records
  pub lines : bytes ≡ record_lines records
  pub kind : ℕ
  pub code : List ℕ
  pub breach : IsUnsoundAt records kind code
  pub none : AreOfNoTables records

-- the bytes are no export file: the line of this number is the first that isn't a record's, or it is 0, and the records aren't those
-- of sound tables
abbrev pub IsDamagedLine : List ℕ → ℕ → Type 0
IsDamagedLine bytes line = HasBadLine bytes line ⊎ EndsInside bytes line ⊎ ((line ≡ 0) × AreUnsound bytes)
