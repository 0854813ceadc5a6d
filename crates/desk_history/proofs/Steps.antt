-- What a step does: a refused edit and a repeated one change nothing, and an accepted one adds its ticket.
use Rattle.std.proofs.Common.{◌≡◌, ℕ, ◌+◌, true, List, [], ◌∷◌, length, sum_by, Option, Some, None, Result, Ok, Err, refl, sym, ap, ◌∙◌, inl, inr, arith}
use Rattle.std.proofs.lemmas.Bool.{cases_Bool}
use Rattle.std.proofs.lemmas.List.Sums.{sum_by-cons}
use Rattle.desk_text.specs.Code.{code_cmp}
use Rattle.desk_rows.specs.Rows.{row_of, with_row}
use Rattle.desk_rows.proofs.Lookups.{row_of-with_row, sum_by-with_row}
use Rattle.desk_model.specs.declared.edit.Edit.{Edit}
use Rattle.desk_model.specs.declared.rows.ticket.TicketRow.{TicketRow}
use Rattle.desk_model.specs.declared.rule_fault.RuleFault.{RuleFault}
use Rattle.desk_model.specs.declared.rule_fault.RuleFault.TheVariants.{TicketReused}
use Rattle.desk_model.specs.EditText.{edit_text, same_text, ticket_code}
use Rattle.desk_model.specs.Effect.{with_edit_entered, next_number}
use Rattle.desk_model.specs.Lists.{Lists, ticket_row}
use Rattle.desk_history.specs.Refused.{refused, ticket_reused}
use Rattle.desk_history.specs.Sound.{are_numbers}
use Rattle.desk_history.specs.Step.{kept_number, step, step_from, step_new}
use Rattle.desk_model.proofs.Kept.{code_cmp_total, same_code-from}
use Rattle.desk_history.proofs.Numbers.{are_numbers-with_row}
use Rattle.desk_history.proofs.Rules.{unreused}

ok_err : {n : ℕ} {fault : RuleFault} {G : Type 0} → Ok n ≡ Err fault → G
ok_err {n} {fault} {G} e = cc

-- the step of an edit that is kept
pub step-kept : (t : Lists) (edit : Edit) (number : ℕ) → kept_number t edit ≡ Some number → step t edit ≡ (Ok number, t)
unfolding step
step-kept t edit number e = rw e refl

-- the step of a new edit that a rule refuses
pub step-refused : (t : Lists) (edit : Edit) (fault : RuleFault) → kept_number t edit ≡ None → refused t edit ≡ Some fault → step t edit ≡ (Err fault, t)
unfolding step
step-refused t edit fault e f = rw (e, f) refl

-- the step of a new edit that meets no refusal
pub step-accepted : (t : Lists) (edit : Edit) → kept_number t edit ≡ None → refused t edit ≡ None → step t edit ≡ (Ok (next_number t), with_edit_entered t edit)
unfolding step
step-accepted t edit e f = rw (e, f) refl

err_err : (first second : RuleFault) → ◌≡◌ {A = Result ℕ RuleFault} (Err first) (Err second) → first ≡ second
err_err first second e = cc

cause_of : (t : Lists) (edit : Edit) (kept : Option ℕ) (rule : Option RuleFault) (fault : RuleFault) → kept_number t edit ≡ kept → refused t edit ≡ rule → (step t edit).0 ≡ Err fault → (kept_number t edit ≡ None) × (refused t edit ≡ Some fault)
cause_of t edit (Some number) rule fault e f h = ok_err (rw (step-kept t edit number e) at h)
cause_of t edit None (Some told) fault e f h = (e, f ∙ ap Some (err_err told fault (rw (step-refused t edit told e f) at h)))
cause_of t edit None None fault e f h = ok_err (rw (step-accepted t edit e f) at h)

-- an edit that is refused wasn't kept, and the rule that it breaks first gives the fault
pub refusal-new : (t : Lists) (edit : Edit) (fault : RuleFault) → (step t edit).0 ≡ Err fault → kept_number t edit ≡ None
refusal-new t edit fault h = (cause_of t edit (kept_number t edit) (refused t edit) fault refl refl h).0

pub refusal-cause : (t : Lists) (edit : Edit) (fault : RuleFault) → (step t edit).0 ≡ Err fault → refused t edit ≡ Some fault
refusal-cause t edit fault h = (cause_of t edit (kept_number t edit) (refused t edit) fault refl refl h).1

answered : (t : Lists) (edit : Edit) (kept : Option ℕ) (fault : RuleFault) → (step_from t edit kept).0 ≡ Err fault → (step_from t edit kept).1 ≡ t
answered t edit (Some number) fault e = refl
answered t edit None fault e = new (refused t edit) e
  where
    new : (rule : Option RuleFault) → (step_new t edit rule).0 ≡ Err fault → (step_new t edit rule).1 ≡ t
    new (Some told) h = refl
    new None h = ok_err h

-- an edit that is refused leaves the tables
pub refused-leaves : (t : Lists) (edit : Edit) (fault : RuleFault) → (step t edit).0 ≡ Err fault → (step t edit).1 ≡ t
unfolding step
refused-leaves t edit fault e = answered t edit (kept_number t edit) fault e

none_some : {X : Type 0} (x : X) {G : Type 0} → Some x ≡ None → G
none_some x e = cc

fresh_by : (t : Lists) (edit : Edit) (o : Option TicketRow) → ticket_row t (ticket_code edit) ≡ o → kept_number t edit ≡ None → ticket_reused t edit ≡ None → o ≡ None
unfolding kept_number ticket_reused
fresh_by t edit None e f g = refl
fresh_by t edit (Some ticket) e f g =
    elim (cases_Bool (same_text ticket.text (edit_text edit))) [
      | inl same ↦ none_some ticket.number (rw (e, same) at f)
      | inr other ↦ none_some TicketReused (rw (e, other) at g)
    ]

-- the ticket of a new edit that doesn't meet refusal 1 isn't kept
pub fresh : (t : Lists) (edit : Edit) → kept_number t edit ≡ None → ticket_reused t edit ≡ None → ticket_row t (ticket_code edit) ≡ None
fresh t edit e f = fresh_by t edit (ticket_row t (ticket_code edit)) refl e f

abbrev pub ticket_of : Lists → Edit → TicketRow
ticket_of t edit = record { code = ticket_code edit; number = next_number t; text = edit_text edit }

pub tickets_entered : (t : Lists) (edit : Edit) → (with_edit_entered t edit).tickets ≡ with_row (λ row. row.code) code_cmp (ticket_of t edit) t.tickets
unfolding with_edit_entered
tickets_entered t edit = refl

-- an edit that was entered is kept from then on, with the number that it got
pub kept-entered : (t : Lists) (edit : Edit) → kept_number (with_edit_entered t edit) edit ≡ Some (next_number t)
unfolding kept_number
kept-entered t edit =
    let found : ticket_row (with_edit_entered t edit) (ticket_code edit) ≡ Some (ticket_of t edit) =
    ap (λ rows. row_of (λ row. row.code) code_cmp (ticket_code edit) rows) (tickets_entered t edit)
    ∙ row_of-with_row (λ row. row.code) code_cmp code_cmp_total (ticket_of t edit) t.tickets in
    rw (found, same_code-from (edit_text edit) (edit_text edit) refl) refl

length-by : (rows : List TicketRow) → sum_by (λ row. 1) rows ≡ length rows
length-by [] = refl
length-by (row ∷ rows) = omega (arith, sum_by-cons (λ r. 1) row rows, length-by rows)

-- an accepted edit adds one ticket
pub tickets-length : (t : Lists) (edit : Edit) → ticket_row t (ticket_code edit) ≡ None → length (with_edit_entered t edit).tickets ≡ length t.tickets + 1
tickets-length t edit absent =
    let counted = sum_by-with_row (λ row. row.code) code_cmp (λ row. 1) (ticket_of t edit) t.tickets absent in
    rw (tickets_entered t edit) (omega (arith, counted, length-by t.tickets, length-by (with_row (λ row. row.code) code_cmp (ticket_of t edit) t.tickets)))

-- numbers stay 1 to n where a new ticket is entered
pub are_numbers-entered : (t : Lists) (edit : Edit) → kept_number t edit ≡ None → ticket_reused t edit ≡ None → are_numbers t.tickets ≡ true → are_numbers (with_edit_entered t edit).tickets ≡ true
are_numbers-entered t edit e f n =
    let absent = fresh t edit e f in
    let longer = sym (ap length (tickets_entered t edit)) ∙ tickets-length t edit absent in
    rw (tickets_entered t edit) (are_numbers-with_row t.tickets n (ticket_of t edit) refl absent longer)

step_numbers : (t : Lists) (edit : Edit) (has : Option ℕ) (rule : Option RuleFault) → kept_number t edit ≡ has → refused t edit ≡ rule → are_numbers t.tickets ≡ true → are_numbers (step t edit).1.tickets ≡ true
step_numbers t edit (Some number) rule e f n = rw (step-kept t edit number e) n
step_numbers t edit None (Some fault) e f n = rw (step-refused t edit fault e f) n
step_numbers t edit None None e f n = rw (step-accepted t edit e f) (are_numbers-entered t edit e (unreused t edit f) n)

-- numbers stay 1 to n
pub are_numbers-step : (t : Lists) (edit : Edit) → are_numbers t.tickets ≡ true → are_numbers (step t edit).1.tickets ≡ true
are_numbers-step t edit n = step_numbers t edit (kept_number t edit) (refused t edit) refl refl n
