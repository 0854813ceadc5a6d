-- What is read behind the version is the row of this code and text, and else there is none.
use Rattle.std.proofs.Common.{Err, ap, sym, ◌∙◌}
use Rattle.desk_fields.specs.Reading.{fields_of}
use Rattle.desk_fields.proofs.Codec.{none_some}
use Rattle.desk_fields.proofs.RowLaws.{handed_memory, handed_row, row_back, row_exact}
use Rattle.desk_fields.proofs.row_text.read_row.Goals as goal

pub returns-then-not-take_version-clause-version : goal.returns-then-not-take_version-clause-version
unfolding fields_of
returns-then-not-take_version-clause-version c = λ _ v. c.if-not-take_version.ensures v.0 (c.of-fields.ensures ∙ v.1)

pub returns-in_err-row_of-clause-versioned : goal.returns-in_err-row_of-clause-versioned
unfolding fields_of
returns-in_err-row_of-clause-versioned c = λ _. (c.take_version.new.fields, sym c.of-fields.ensures ∙ c.if-not-take_version.ensures)

pub returns-in_err-row_of-clause-shape : goal.returns-in_err-row_of-clause-shape
unfolding fields_of
returns-in_err-row_of-clause-shape c =
    λ e row of.
    none_some row
    (sym (c.row_of.ensures.shape (c.in_err-row_of.was ∙ ap (λ f. Err f) (handed_row _ _ c.from_residual.ensures.1 e)))
    ∙ row_back c.args.table c.args.code.now c.args.body.now c.take_version.new.fields (sym c.of-fields.ensures ∙ c.if-not-take_version.ensures) row of)

pub returns-clause-row : goal.returns-clause-row
unfolding fields_of
returns-clause-row c =
    row_exact c.args.table c.args.code.now c.args.body.now c.take_version.new.fields (sym c.of-fields.ensures ∙ c.if-not-take_version.ensures) c.in_ok-row_of.field-0 c.in_ok-row_of.ensures.ok

pub returns-in_err-row_of-clause-memory : goal.returns-in_err-row_of-clause-memory
unfolding fields_of
returns-in_err-row_of-clause-memory c =
    λ e. (
      (c.take_version.new.fields, sym c.of-fields.ensures ∙ c.if-not-take_version.ensures),
      c.row_of.ensures.memory (c.in_err-row_of.was ∙ ap (λ f. Err f) (handed_memory _ _ c.from_residual.ensures.1 e)),
    )
