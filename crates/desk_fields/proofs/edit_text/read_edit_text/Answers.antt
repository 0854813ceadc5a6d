-- What is read is the edit of this text, and of this code where its ticket has the code.
use Rattle.std.proofs.Common.{Err, ap, ◌∙◌}
use Rattle.desk_fields.proofs.Tickets.{edit_read, handed_text, none_of, other_code}
use Rattle.desk_fields.proofs.edit_text.read_edit_text.Goals as goal

pub returns-in_err-edit-clause-none : goal.returns-in_err-edit-clause-none
returns-in_err-edit-clause-none c =
    λ e. none_of c.ticket_of.ensures (c.edit_of.ensures.shape (c.in_err-edit.was ∙ ap (λ f. Err f) (handed_text _ _ c.from_residual.ensures.1 e)))

pub returns-then-branch-clause-edit : goal.returns-then-branch-clause-edit
returns-then-branch-clause-edit c = edit_read c.in_ok-edit.edit c.ticket_of.ensures c.in_ok-edit.ensures.ok (rw c.if-branch.true at c.in_ok-has_code.ensures)

pub returns-else-branch-clause-none : goal.returns-else-branch-clause-none
returns-else-branch-clause-none c = λ _. other_code c.in_ok-edit.edit c.ticket_of.ensures c.in_ok-edit.ensures.ok (rw c.if-branch.false at c.in_ok-has_code.ensures)
