-- Laws of texts that are read back. Each is the contract of a function without a body in `src/laws.rt`, so that the check
-- proves it.
use Rattle.std.specs.Prelude.{◌≡◌, ℕ, List}
use Rattle.desk_model.specs.declared.edit.Edit.{Edit}
use Rattle.desk_model.specs.declared.row.Row.{Row}
use Rattle.desk_model.specs.Rows.{record_code, table_number}
use Rattle.desk_model.specs.RowTexts.{body_text}
use Rattle.desk_fields.specs.EditTexts.{IsEditOf}
use Rattle.desk_fields.specs.RowTexts.{IsRowInForm, IsRowOf}

-- what is written of a row in form is that row's, so that it is read again; and what is read is the one row, so that what is
-- written of it is the same again
pub record RowsReadBack : Type 0 where
  pub written : (row : Row) → IsRowInForm row → IsRowOf (table_number row) (record_code row) (body_text row) row
  pub one : (table : ℕ) (code body : List ℕ) (a b : Row) → IsRowOf table code body a → IsRowOf table code body b → a ≡ b

-- one edit has a ticket's code and a text
abbrev pub EditsReadBack : Type 0
EditsReadBack = (code text : List ℕ) (a b : Edit) → IsEditOf code text a → IsEditOf code text b → a ≡ b
