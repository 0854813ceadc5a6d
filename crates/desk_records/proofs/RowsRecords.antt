-- What is appended to the records of rows, and that a record is of one row.
use Rattle.std.proofs.Common.{◌≡◌, List, ◌++◌, map, sym, ap, ◌∙◌}
use Rattle.std.proofs.lemmas.List.{map-append}
use Rattle.desk_edge.specs.declared.record.Record.{Record}
use Rattle.desk_fields.specs.RowTexts.{IsRowOf}
use Rattle.desk_fields.proofs.RowLaws.{one_row as one_row_of}
use Rattle.desk_model.specs.declared.row.Row.{Row}
use Rattle.desk_records.specs.Records.{IsRecordOf, record_of}

-- the records of more rows
pub appended : (rows more : List Row) {before after : List Record} → before ≡ map record_of rows → after ≡ before ++ map record_of more → after ≡ map record_of (rows ++ more)
appended rows more b a = a ∙ ap (λ records. records ++ map record_of more) b ∙ sym (map-append record_of rows more)

-- the record has the row's code and text, under the row's table
of_row : (kept : Record) (row : Row) → IsRecordOf row kept → IsRowOf kept.kind kept.code kept.body row
of_row kept row is = record {
  form = is.form;
  of_table = ap (λ kept. kept.kind) is.is_written;
  has_code = ap (λ kept. kept.code) is.is_written;
  has_body = ap (λ kept. kept.body) is.is_written;
}

pub one_row : (kept : Record) (a b : Row) → IsRecordOf a kept → IsRecordOf b kept → a ≡ b
one_row kept a b first second = one_row_of kept.kind kept.code kept.body a b (of_row kept a first) (of_row kept b second)
