-- The columns of a row, counted from 1: the form of each, and what their fields make. A row that isn't of its columns is told
-- by its number among the records of the text and by its first bad column.
use Rattle.std.specs.Prelude.{ℕ, ◌+◌, ◌-◌, if◌then◌else◌, List, length, nat_lt, Option, option_and_then, Result, Ok, Err}
use Rattle.std.specs.Option.{ok_or}
use Rattle.csv.specs.Records.{field_at}
use Rattle.desk_text.specs.Forms.{applied}
use Rattle.desk_declare.specs.Rows.{Row}
use Rattle.desk_declare.specs.declared.declare_fault.DeclareFault.{DeclareFault}
use Rattle.desk_declare.specs.declared.declare_fault.DeclareFault.TheVariants.{BadField}

-- the field of a row in a column, if there is one
abbrev pub field_in : ℕ → Row → Option (List ℕ)
field_in column row = field_at row (column - 1)

-- what the field in a column is by its form; a field that is missing or isn't of the form makes the column bad
unfoldable pub read_in : {A : Type 0} → ℕ → (List ℕ → Option A) → ℕ → Row → Result A DeclareFault
read_in column form place row = ok_or (option_and_then form (field_in column row)) (BadField place column)

-- columns up to a last one, and what their fields make in a row of this number, or the first of them that is bad
pub record Columns (A : Type 0) : Type 0 where
  pub last : ℕ
  pub read : ℕ → Row → Result A DeclareFault

-- columns that are looked at elsewhere, up to a last one
abbrev pub columns_after : {A : Type 0} → ℕ → A → Columns A
columns_after last a = record { last = last; read = λ place row. Ok a }

-- columns, and then one more of a form
infixl 10 ◌then◌
abbrev pub ◌then◌ : {A B : Type 0} → Columns (A → B) → (List ℕ → Option A) → Columns B
columns then form = record {
  last = columns.last + 1;
  read = λ place row. applied (columns.read place row) (read_in (columns.last + 1) form place row);
}

-- what a row is that has no field after a last column; else the next column is bad
abbrev pub ending : {A : Type 0} → ℕ → ℕ → Row → Result A DeclareFault → Result A DeclareFault
ending last place row (Err fault) = Err fault
ending last place row (Ok a) = if nat_lt last (length row) then Err (BadField place (last + 1)) else Ok a

-- what a row of these columns makes, or its first bad column
abbrev pub row_made_by : {A : Type 0} → Columns A → ℕ → Row → Result A DeclareFault
row_made_by columns place row = ending columns.last place row (columns.read place row)
