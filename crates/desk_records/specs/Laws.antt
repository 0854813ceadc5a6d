-- Laws of records. Each is the contract of a function without a body in `src/laws.rt`, so that the check
-- proves it.
use Rattle.std.specs.Prelude.{◌≡◌}
use Rattle.std.specs.List.{AllByRecursion}
use Rattle.desk_edge.specs.Content.{HaveDistinctKeys}
use Rattle.desk_edge.specs.declared.record.Record.{Record}
use Rattle.desk_fields.specs.RowTexts.{IsRowInForm}
use Rattle.desk_model.specs.declared.row.Row.{Row}
use Rattle.desk_model.specs.Lists.{Lists}
use Rattle.desk_model.specs.Rows.{rows_of}
use Rattle.desk_history.specs.Sound.{Sound}
use Rattle.desk_records.specs.Records.{IsRecordOf, record_of, records_of}

-- what is written of a row in form is that row's, so that it is read again; and a record is of one row, so that what is written of
-- the row that was read is the same again
pub record RecordsReadBack : Type 0 where
  pub written : (row : Row) → IsRowInForm row → IsRecordOf row (record_of row)
  pub one : (kept : Record) (a b : Row) → IsRecordOf a kept → IsRecordOf b kept → a ≡ b

-- each row of sound tables has a key of its own in a store
abbrev pub RowsHaveKeys : Type 0
RowsHaveKeys = (t : Lists) → Sound t → HaveDistinctKeys (records_of t)

-- each row of sound tables is in form, so that its record is read again
abbrev pub RowsAreInForm : Type 0
RowsAreInForm = (t : Lists) → Sound t → AllByRecursion IsRowInForm (rows_of t)
