-- A row that was found is the first of those that were left.
use Rattle.std.proofs.Common.{◌≡◌, ◌∙◌, sym, ◌∷◌}
use Rattle.csv.specs.Records.{fields_of}
use Rattle.desk_declare.specs.Rows.{IsPlain, rows_left}
use Rattle.desk_declare.proofs.RowFacts.{none-left, one-taken}
use Rattle.desk_declare.proofs.rows.Rows.next.Goals as goal

-- what a read that found a row shows, of the reader before and after it
taken : (c : goal.In-Ok-true)
    → (rows_left c.self.inside.reader ≡ fields_of c.read_byte_record.new.row ∷ rows_left c.read_byte_record.new.self) × IsPlain c.read_byte_record.new.self
taken c =
    let plain = c.self.invariant c.if-self.false in
    let read = rw c.in-Ok-true.field-0-test at c.in-Ok-true.ensures.reads in
    one-taken c.self.inside.reader c.read_byte_record.new.self (fields_of c.read_byte_record.new.row) plain read c.in-Ok-true.ensures.flexible (c.in-Ok-true.ensures.ready plain.trim)

pub invariant_of-self : goal.invariant_of-self
invariant_of-self c = λ _. (taken c).1

pub returns-in-Ok-true : goal.returns-in-Ok-true
returns-in-Ok-true c = rw c.if-self.false (sym (rw c.if-self.false at c.self.view_is) ∙ (taken c).0)

pub returns-in-Ok-false : goal.returns-in-Ok-false
returns-in-Ok-false c =
    let read = rw c.in-Ok-false.field-0-test at c.in-Ok-false.ensures.reads in
    sym (rw c.if-self.false at c.self.view_is)
    ∙ none-left c.self.inside.reader c.read_byte_record.new.self (fields_of c.read_byte_record.new.row) (c.self.invariant c.if-self.false) read
