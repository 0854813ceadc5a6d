-- The first of the refusals 1 to 19 that an edit meets, by the groups in which they are tried.
use Rattle.std.proofs.Common.{◌≡◌, Bool, true, false, not, List, [], ◌∷◌, ◌++◌, Option, Some, None, ℕ, refl, ap, ◌∙◌, if◌then◌else◌}
use Rattle.desk_text.specs.Code.{code_cmp}
use Rattle.desk_rows.specs.Rows.{with_row}
use Rattle.desk_model.specs.declared.rule_fault.RuleFault.TheVariants.{TextFull, TicketReused}
use Rattle.std.specs.Option.{option_and_then}
use Rattle.desk_model.specs.declared.edit.Edit.{Edit}
use Rattle.desk_model.specs.declared.rows.ticket.TicketRow.{TicketRow}
use Rattle.desk_model.specs.declared.rule_fault.RuleFault.{RuleFault}
use Rattle.desk_model.specs.EditText.{edit_text, same_text, ticket_code}
use Rattle.desk_model.specs.Effect.{with_edit_entered, with_edit_made}
use Rattle.desk_model.specs.Lists.{Lists, ticket_row}
use Rattle.desk_history.specs.Refused.{exemption_span, first_some, foreign_material, masses_exceed, outside_annex, refuse_if, refused_by_rows, ship_below_zero, stale_declaration, table_full, text_full, ticket_reused, units_too_large}
use Rattle.desk_history.specs.Limits.{has_too_much_text}
use Rattle.desk_history.specs.Step.{kept_number}
use Rattle.desk_tables.specs.Change.{with_change_made}
use Rattle.desk_history.specs.Refused.{refusals_of_limits, refusals_of_names, refusals_of_values}
use Rattle.desk_tables.specs.Plan.{with_change_entered}
use Rattle.desk_tables.specs.Ticket.{ticket_for}
use Rattle.desk_tables.specs.declared.row_change.RowChange.{RowChange}

some_none : {X : Type 0} {P : Type 0} {x : X} → Some x ≡ None → P
some_none e = cc

none_some : {X : Type 0} {P : Type 0} {x : X} → None ≡ Some x → P
none_some e = cc

-- the first of a list in two pieces
pub first_in_front : {X : Type 0} (xs ys : List (Option X)) (x : X) → first_some xs ≡ Some x → first_some (xs ++ ys) ≡ Some x
first_in_front [] ys x e = none_some e
first_in_front (None ∷ xs) ys x e = first_in_front xs ys x e
first_in_front (Some y ∷ xs) ys x e = e

pub first_behind : {X : Type 0} (xs ys : List (Option X)) → first_some xs ≡ None → first_some (xs ++ ys) ≡ first_some ys
first_behind [] ys e = refl
first_behind (None ∷ xs) ys e = first_behind xs ys e
first_behind (Some y ∷ xs) ys e = some_none e

-- the last of a list of which none is there isn't there
last_absent : {X : Type 0} (xs : List (Option X)) (o : Option X) → first_some (xs ++ (o ∷ [])) ≡ None → o ≡ None
last_absent [] None e = refl
last_absent [] (Some x) e = some_none e
last_absent (None ∷ xs) o e = last_absent xs o e
last_absent (Some x ∷ xs) o e = some_none e

-- the number under which a kept ticket has an edit's text
kept_by : Edit → Option TicketRow → Option ℕ
kept_by edit kept = option_and_then (λ ticket. if same_text ticket.text (edit_text edit) then Some ticket.number else None) kept

-- the fault of a kept ticket that has another text
reused_by : Edit → Option TicketRow → Option RuleFault
reused_by edit kept = option_and_then (λ ticket. refuse_if (not (same_text ticket.text (edit_text edit))) TicketReused) kept

same_or_not : (b : Bool) (number : ℕ) → (if b then Some number else None) ≡ None → refuse_if (not b) TicketReused ≡ None → ⊥
same_or_not true number kept reused = some_none kept
same_or_not false number kept reused = some_none reused

neither : (edit : Edit) (kept : Option TicketRow) → kept_by edit kept ≡ None → reused_by edit kept ≡ None → kept ≡ None
unfolding kept_by reused_by
neither edit None e f = refl
neither edit (Some ticket) e f = absurd (same_or_not (same_text ticket.text (edit_text edit)) ticket.number e f)

with_tickets : Lists → List TicketRow → Lists
with_tickets t rows = record t { tickets = rows }

module _ (t : Lists) (edit : Edit) where
  unfoldable pub by_limits : List (Option RuleFault)
  by_limits = refusals_of_limits t edit

  in_groups : refused_by_rows t edit ≡ first_some ((ticket_reused t edit ∷ []) ++ (refusals_of_names t edit ++ (refusals_of_values t edit ++ by_limits)))
  unfolding refused_by_rows by_limits
  in_groups = refl

  pub at_ticket : (fault : RuleFault) → ticket_reused t edit ≡ Some fault → refused_by_rows t edit ≡ Some fault
  at_ticket fault e = in_groups ∙ first_in_front (ticket_reused t edit ∷ []) _ fault (ap (λ o. first_some (o ∷ [])) e)

  past_ticket : ticket_reused t edit ≡ None → refused_by_rows t edit ≡ first_some (refusals_of_names t edit ++ (refusals_of_values t edit ++ by_limits))
  past_ticket none = in_groups ∙ first_behind (ticket_reused t edit ∷ []) _ (ap (λ o. first_some (o ∷ [])) none)

  pub at_names : (fault : RuleFault) → ticket_reused t edit ≡ None → first_some (refusals_of_names t edit) ≡ Some fault → refused_by_rows t edit ≡ Some fault
  at_names fault none e = past_ticket none ∙ first_in_front (refusals_of_names t edit) _ fault e

  pub at_values : (fault : RuleFault) → ticket_reused t edit ≡ None → first_some (refusals_of_names t edit) ≡ None → first_some (refusals_of_values t edit) ≡ Some fault → refused_by_rows t edit ≡ Some fault
  at_values fault none names e = past_ticket none ∙ first_behind (refusals_of_names t edit) _ names ∙ first_in_front (refusals_of_values t edit) _ fault e

  pub at_limits : ticket_reused t edit ≡ None → first_some (refusals_of_names t edit) ≡ None → first_some (refusals_of_values t edit) ≡ None → refused_by_rows t edit ≡ first_some by_limits
  at_limits none names values = past_ticket none ∙ first_behind (refusals_of_names t edit) _ names ∙ first_behind (refusals_of_values t edit) _ values

  pub units_fit : first_some (refusals_of_values t edit) ≡ None → units_too_large t edit ≡ None
  units_fit e = last_absent (foreign_material t edit ∷ stale_declaration t edit ∷ masses_exceed t edit ∷ exemption_span t edit ∷ outside_annex t edit ∷ ship_below_zero t edit ∷ []) (units_too_large t edit) e

  -- an edit that isn't kept and whose ticket isn't used for another has a new ticket
  pub ticket_is_new : kept_number t edit ≡ None → ticket_reused t edit ≡ None → ticket_row t (ticket_code edit) ≡ None
  unfolding kept_number ticket_reused kept_by reused_by
  ticket_is_new kept reused = neither edit (ticket_row t (ticket_code edit)) kept reused

  -- the plan's rows and ticket are what the edit enters
  pub leaves : (change : RowChange) (ticket : TicketRow) → with_change_made t change ≡ with_edit_made t edit → ticket ≡ ticket_for t edit → with_change_entered t change ticket ≡ with_edit_entered t edit
  unfolding with_edit_entered with_tickets
  leaves change ticket e f =
      ap (λ lists. with_tickets lists (with_row (λ row. row.code) code_cmp ticket t.tickets)) e
      ∙ ap (λ row. with_tickets (with_edit_made t edit) (with_row (λ row. row.code) code_cmp row t.tickets)) f

  -- an edit that meets neither of the refusals 18 and 19 keeps the limit of texts
  pub text_fits_after : first_some by_limits ≡ None → has_too_much_text (with_edit_entered t edit) ≡ false
  unfolding by_limits text_full
  text_fits_after e = not_refused (has_too_much_text (with_edit_entered t edit)) (last_absent (table_full t edit ∷ []) _ e)
    where
      not_refused : (b : Bool) → refuse_if b TextFull ≡ None → b ≡ false
      not_refused true e = some_none e
      not_refused false e = refl
