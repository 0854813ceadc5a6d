-- A bad line stays the first bad one, whatever comes behind it; and what follows good lines is one more, or the first bad one.
use Rattle.std.proofs.Common.{◌≡◌, ℕ, ◌+◌, List, [], ◌∷◌, ◌++◌, length, map, refl, sym, ap, ◌∙◌, subst, append_assoc, append-nil}
use Rattle.std.specs.List.{AllByRecursion}
use Rattle.std.proofs.lemmas.List.Concat.{flat_map-append}
use Rattle.desk_records.specs.Damage.{AreTablesOf}
use Rattle.desk_edge.specs.Content.{key_cmp, key_of}
use Rattle.desk_edge.specs.declared.record.Record.{Record}
use Rattle.desk_fields.specs.RowTexts.{IsRowInForm}
use Rattle.desk_model.specs.Lists.{Lists}
use Rattle.desk_model.specs.declared.row.Row.{Row}
use Rattle.desk_records.specs.Records.{IsOfNoRow, IsRecordOf, record_of}
use Rattle.desk_rows.specs.Rows.{IsByKey}
use Rattle.desk_report.specs.Lines.{line_of, record_lines}
use Rattle.desk_report.specs.Reading.{AreInOrder, HasBadLine, HasNoLineEnd}

-- what is known of a bad line is known with more behind
pub bad_later : (bytes more : List ℕ) (line : ℕ) → HasBadLine bytes line → HasBadLine (bytes ++ more) line
bad_later bytes more line h = record {
  records = h.records;
  before = h.before;
  bad = h.bad;
  rest = h.rest ++ more;
  parts = ap (λ (l : List ℕ). l ++ more) h.parts ∙ append_assoc (record_lines h.records ++ h.bad) (10 ∷ h.rest) more;
  one_line = h.one_line;
  number = h.number;
  is_bad = h.is_bad;
}

-- each of the records is that of its row
pub of_rows : (rows : List Row) → AllByRecursion IsRowInForm rows → AllByRecursion (λ kept. (row : Row) × IsRecordOf row kept) (map record_of rows)
of_rows [] forms = tt
of_rows (row ∷ rows) forms = ((row, record { form = forms.0; is_written = refl }), of_rows rows forms.1)

-- so records in order that have tables are in order and of rows
pub in_order : (records : List Record) (tables : Lists) → IsByKey key_of key_cmp records → AreTablesOf records tables → AreInOrder records
in_order records tables by_key are = record { by_key = by_key; of_rows = subst (AllByRecursion (λ kept. (row : Row) × IsRecordOf row kept)) (sym are.are_written) (of_rows are.rows are.forms) }

last_row : (records : List Record) (kept : Record) → AllByRecursion (λ kept. (row : Row) × IsRecordOf row kept) (records ++ kept ∷ []) → (row : Row) × IsRecordOf row kept
last_row [] kept all = all.0
last_row (first ∷ records) kept all = last_row records kept all.1

-- the line that is whole now is the first bad one
pub bad_now : (read held : List ℕ) (records : List Record) (tables : Lists) (line : ℕ) → IsByKey key_of key_cmp records → AreTablesOf records tables
    → HasNoLineEnd held → read ≡ record_lines records ++ held → line ≡ length records + 1
    → ((kept : Record) (row : Row) → IsRecordOf row kept → line_of kept ≡ held ++ 10 ∷ [] → IsByKey key_of key_cmp (records ++ kept ∷ []) → ⊥)
    → HasBadLine (read ++ 10 ∷ []) line
bad_now read held records tables line by_key are one_line e number none = record {
  records = records;
  before = in_order records tables by_key are;
  bad = held;
  rest = [];
  parts = ap (λ (l : List ℕ). l ++ 10 ∷ []) e;
  one_line = one_line;
  number = number;
  is_bad = λ kept same more. let row = last_row records kept more.of_rows in none kept row.0 row.1 same more.by_key;
}

-- so it is where no row has the only record that it may be
pub bad_record : (read held : List ℕ) (records : List Record) (tables : Lists) (line : ℕ) (kept : Record) → IsByKey key_of key_cmp records → AreTablesOf records tables
    → HasNoLineEnd held → read ≡ record_lines records ++ held → line ≡ length records + 1
    → ((other : Record) (row : Row) → IsRecordOf row other → line_of other ≡ held ++ 10 ∷ [] → kept ≡ other) → IsOfNoRow kept
    → HasBadLine (read ++ 10 ∷ []) line
bad_record read held records tables line kept by_key are one_line e number one none =
    bad_now read held records tables line by_key are one_line e number (λ other row of same more. none row (subst (IsRecordOf row) (sym (one other row of same)) of))

-- one more line of a record
pub line_more : (read held : List ℕ) (records : List Record) (kept : Record) → read ≡ record_lines records ++ held → line_of kept ≡ held ++ 10 ∷ []
    → read ++ 10 ∷ [] ≡ record_lines (records ++ kept ∷ []) ++ []
line_more read held records kept e same =
    ap (λ (l : List ℕ). l ++ 10 ∷ []) e ∙ append_assoc (record_lines records) held (10 ∷ [])
    ∙ ap (λ (l : List ℕ). record_lines records ++ l) (sym same)
    ∙ sym (flat_map-append line_of records (kept ∷ []) ∙ ap (λ (l : List ℕ). record_lines records ++ l) (append-nil (line_of kept)))
    ∙ sym (append-nil (record_lines (records ++ kept ∷ [])))
