-- Where the reading of one table's row fails by the shape, the row of that table is none; and rows without texts want no memory.
use Rattle.std.proofs.Common.{◌≡◌, ◌∙◌, Option, None, Result, Err, ap}
use Rattle.std.specs.Prelude.{option_map}
use Rattle.std.specs.Result.{IsErrAnd}
use Rattle.desk_model.specs.declared.row.Row.TheVariants.{Substance, Member, Material, Part, Line, Product, Exemption, Candidate, Shipment, Ticket}
use Rattle.desk_model.specs.declared.row.Row.{Row}
use Rattle.desk_fields.specs.declared.field_fault.FieldFault.{FieldFault}
use Rattle.desk_fields.specs.declared.field_fault.FieldFault.TheVariants.{Shape}
use Rattle.desk_fields.specs.RowReading.{row_of_fields}
use Rattle.desk_fields.proofs.Entered.{handed_on}
use Rattle.desk_fields.proofs.rows.row_of.Goals as goal

fails : {R : Type 0} {own : Result R FieldFault} {read : Option R} {fault : FieldFault} (row : R → Row) (r : Result Row FieldFault) → own ≡ Err fault → IsErrAnd r (λ f. f ≡ fault) → (own ≡ Err Shape → read ≡ None) → r ≡ Err Shape → option_map row read ≡ None
fails {R} {own} {read} {fault} row r was same none e = ap (option_map row) (none (was ∙ ap (λ f. Err f) (handed_on r fault same e)))

pub returns-in_err-substance-in-1-clause-shape : goal.returns-in_err-substance-in-1-clause-shape
unfolding row_of_fields
returns-in_err-substance-in-1-clause-shape c = λ e. rw c.in-1.is (fails Substance _ c.in_err-substance-in-1.was c.from_residual.ensures.1 c.substance.ensures.shape e)

pub returns-in_err-member-in-2-clause-shape : goal.returns-in_err-member-in-2-clause-shape
unfolding row_of_fields
returns-in_err-member-in-2-clause-shape c = λ e. rw c.in-2.is (fails Member _ c.in_err-member-in-2.was c.from_residual-in_err-member-in-2.ensures.1 c.member.ensures.shape e)

pub returns-in_err-material-in-3-clause-shape : goal.returns-in_err-material-in-3-clause-shape
unfolding row_of_fields
returns-in_err-material-in-3-clause-shape c = λ e. rw c.in-3.is (fails Material _ c.in_err-material-in-3.was c.from_residual-in_err-material-in-3.ensures.1 c.material.ensures.shape e)

pub returns-in_err-part-in-4-clause-shape : goal.returns-in_err-part-in-4-clause-shape
unfolding row_of_fields
returns-in_err-part-in-4-clause-shape c = λ e. rw c.in-4.is (fails Part _ c.in_err-part-in-4.was c.from_residual-in_err-part-in-4.ensures.1 c.part.ensures.shape e)

pub returns-in_err-line-in-5-clause-shape : goal.returns-in_err-line-in-5-clause-shape
unfolding row_of_fields
returns-in_err-line-in-5-clause-shape c = λ e. rw c.in-5.is (fails Line _ c.in_err-line-in-5.was c.from_residual-in_err-line-in-5.ensures.1 c.line.ensures.shape e)

pub returns-in_err-product-in-6-clause-shape : goal.returns-in_err-product-in-6-clause-shape
unfolding row_of_fields
returns-in_err-product-in-6-clause-shape c = λ e. rw c.in-6.is (fails Product _ c.in_err-product-in-6.was c.from_residual-in_err-product-in-6.ensures.1 c.product.ensures.shape e)

pub returns-in_err-exemption-in-7-clause-shape : goal.returns-in_err-exemption-in-7-clause-shape
unfolding row_of_fields
returns-in_err-exemption-in-7-clause-shape c = λ e. rw c.in-7.is (fails Exemption _ c.in_err-exemption-in-7.was c.from_residual-in_err-exemption-in-7.ensures.1 c.exemption.ensures.shape e)

pub returns-in_err-candidate-in-8-clause-shape : goal.returns-in_err-candidate-in-8-clause-shape
unfolding row_of_fields
returns-in_err-candidate-in-8-clause-shape c = λ e. rw c.in-8.is (fails Candidate _ c.in_err-candidate-in-8.was c.from_residual-in_err-candidate-in-8.ensures.1 c.candidate.ensures.shape e)

pub returns-in_err-shipment-in-9-clause-shape : goal.returns-in_err-shipment-in-9-clause-shape
unfolding row_of_fields
returns-in_err-shipment-in-9-clause-shape c = λ e. rw c.in-9.is (fails Shipment _ c.in_err-shipment-in-9.was c.from_residual-in_err-shipment-in-9.ensures.1 c.shipment.ensures.shape e)

pub returns-in_err-ticket-in-10-clause-shape : goal.returns-in_err-ticket-in-10-clause-shape
unfolding row_of_fields
returns-in_err-ticket-in-10-clause-shape c = λ e. rw c.in-10.is (fails Ticket _ c.in_err-ticket-in-10.was c.from_residual-in_err-ticket-in-10.ensures.1 c.ticket.ensures.shape e)

pub returns-in_err-member-in-2-clause-memory : goal.returns-in_err-member-in-2-clause-memory
returns-in_err-member-in-2-clause-memory c = λ e. absurd (c.member.ensures.memory (c.in_err-member-in-2.was ∙ ap (λ f. Err f) (handed_on _ _ c.from_residual-in_err-member-in-2.ensures.1 e)))

pub returns-in_err-line-in-5-clause-memory : goal.returns-in_err-line-in-5-clause-memory
returns-in_err-line-in-5-clause-memory c = λ e. absurd (c.line.ensures.memory (c.in_err-line-in-5.was ∙ ap (λ f. Err f) (handed_on _ _ c.from_residual-in_err-line-in-5.ensures.1 e)))

pub returns-in_err-product-in-6-clause-memory : goal.returns-in_err-product-in-6-clause-memory
returns-in_err-product-in-6-clause-memory c = λ e. absurd (c.product.ensures.memory (c.in_err-product-in-6.was ∙ ap (λ f. Err f) (handed_on _ _ c.from_residual-in_err-product-in-6.ensures.1 e)))

pub returns-in_err-candidate-in-8-clause-memory : goal.returns-in_err-candidate-in-8-clause-memory
returns-in_err-candidate-in-8-clause-memory c = λ e. absurd (c.candidate.ensures.memory (c.in_err-candidate-in-8.was ∙ ap (λ f. Err f) (handed_on _ _ c.from_residual-in_err-candidate-in-8.ensures.1 e)))

pub returns-in_err-shipment-in-9-clause-memory : goal.returns-in_err-shipment-in-9-clause-memory
returns-in_err-shipment-in-9-clause-memory c = λ e. absurd (c.shipment.ensures.memory (c.in_err-shipment-in-9.was ∙ ap (λ f. Err f) (handed_on _ _ c.from_residual-in_err-shipment-in-9.ensures.1 e)))
