-- A text is an edit's exactly where it is read as one, under whichever ticket.
use Rattle.std.proofs.Common.{◌≡◌, true, Err, ap, subst, sym}
use Rattle.desk_model.specs.Values.{is_code}
use Rattle.desk_fields.proofs.Tickets.{none_text, other_good, text_read}
use Rattle.desk_fields.proofs.edit_text.is_edit_text.Goals as goal

pub returns-in-Ok-clause-is : goal.returns-in-Ok-clause-is
returns-in-Ok-clause-is c = text_read _ _ c.in-Ok.edit (subst (λ t. is_code t ≡ true) (sym c.no_ticket.ensures) other_good) c.in-Ok.ensures.ok

pub returns-in-Err-Shape-clause-is : goal.returns-in-Err-Shape-clause-is
returns-in-Err-Shape-clause-is c = none_text _ _ (c.in-Err-Shape.ensures.shape (ap (λ f. Err f) c.in-Err-Shape.field-0-is))
