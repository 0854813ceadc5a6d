-- Histories: their numbers, their prefixes, and that what is kept stays kept.
use Rattle.std.proofs.Common.{◌≡◌, ℕ, zero, suc, ◌+◌, ◌-◌, ◌≤◌, Bool, false, List, [], ◌∷◌, ◌++◌, length, take, drop, Option, Some, None, refl, sym, ap, ◌∙◌, subst, arith, take-append-drop}
use Rattle.desk_text.specs.Code.{code_cmp, same_code}
use Rattle.desk_rows.specs.Rows.{row_of}
use Rattle.desk_rows.proofs.Lookups.{row_of-with_row_other}
use Rattle.desk_model.specs.declared.edit.Edit.{Edit}
use Rattle.desk_model.specs.declared.rows.ticket.TicketRow.{TicketRow}
use Rattle.desk_model.specs.declared.rule_fault.RuleFault.{RuleFault}
use Rattle.desk_model.specs.EditText.{ticket_code}
use Rattle.desk_model.specs.Effect.{with_edit_entered}
use Rattle.desk_history.specs.History.{AreAccepted, Begins, History, IsAccepted, IsHistory, number_of, tables_after, up_to}
use Rattle.desk_model.specs.Lists.{Lists, ticket_row}
use Rattle.desk_history.specs.Refused.{refused}
use Rattle.desk_history.specs.Step.{kept_number, step}
use Rattle.desk_model.proofs.Kept.{code_cmp_total, same_code-true}
use Rattle.desk_history.proofs.Rules.{unreused}
use Rattle.desk_history.proofs.Steps.{fresh, step-accepted, step-kept, step-refused, ticket_of, tickets-length, tickets_entered}

-- the tables after an accepted edit
pub step-tables : (t : Lists) (edit : Edit) → IsAccepted t edit → (step t edit).1 ≡ with_edit_entered t edit
step-tables t edit a = ap (λ s. s.1) (step-accepted t edit a.is_new a.is_unrefused)

-- each accepted edit adds one ticket
pub tickets-tables_after : (t : Lists) (edits : List Edit) → AreAccepted t edits → length (tables_after t edits).tickets ≡ length t.tickets + length edits
tickets-tables_after t [] a = omega arith
tickets-tables_after t (edit ∷ edits) a =
    let one = ap (λ u. length u.tickets) (step-tables t edit a.0) ∙ tickets-length t edit (fresh t edit a.0.is_new (unreused t edit a.0.is_unrefused)) in
    omega (arith, one, tickets-tables_after (step t edit).1 edits a.1)

pub AreAccepted-take : (n : ℕ) (t : Lists) (edits : List Edit) → AreAccepted t edits → AreAccepted t (take n edits)
AreAccepted-take zero t edits a = tt
AreAccepted-take (suc n) t [] a = tt
AreAccepted-take (suc n) t (edit ∷ edits) a = (a.0, AreAccepted-take n (step t edit).1 edits a.1)

pub up_to-IsHistory : (history : History) (n : ℕ) → IsHistory history → IsHistory (up_to history n)
up_to-IsHistory history n h = record { sound = h.sound; accepted = AreAccepted-take (n - length history.opening.tickets) history.opening history.edits h.accepted }

-- a number from the opening tables' on names the prefix that has it
pub number_of-up_to : (history : History) (n : ℕ) → IsHistory history → length history.opening.tickets ≤ n → n ≤ number_of history → number_of (up_to history n) ≡ n
number_of-up_to history n h low high =
    let all = tickets-tables_after history.opening history.edits h.accepted in
    let some = tickets-tables_after history.opening (take (n - length history.opening.tickets) history.edits) (AreAccepted-take (n - length history.opening.tickets) history.opening history.edits h.accepted) in
    omega (arith, all, some, low, high, Rattle.std.proofs.Common.length-take-le (n - length history.opening.tickets) history.edits (omega (arith, all, high)))

pub up_to-begins : (history : History) (n : ℕ) → Begins (up_to history n) history
up_to-begins history n = record {
  opening = refl;
  rest = drop (n - length history.opening.tickets) history.edits;
  edits = sym (take-append-drop (n - length history.opening.tickets) history.edits);
}

take_all : {X : Type 0} (xs ys : List X) → take (length xs) (xs ++ ys) ≡ xs
take_all [] ys = refl
take_all (x ∷ xs) ys = ap (λ rest. x ∷ rest) (take_all xs ys)

-- what begins a history is what its number names
pub up_to-only : (history part : History) → IsHistory part → Begins part history → part.edits ≡ (up_to history (number_of part)).edits
up_to-only history part h b =
    let counted = tickets-tables_after part.opening part.edits h.accepted in
    let opened = ap (λ t. length t.tickets) b.opening in
    let places : number_of part - length history.opening.tickets ≡ length part.edits = omega (arith, counted, opened) in
    sym (ap (λ n. take n history.edits) places ∙ ap (λ edits. take (length part.edits) edits) b.edits ∙ take_all part.edits b.rest)

some_none : {X : Type 0} (x : X) {G : Type 0} → Some x ≡ None → G
some_none x e = cc

none_some : {X : Type 0} (x : X) {G : Type 0} → None ≡ Some x → G
none_some x e = cc

kept_has_ticket : (t : Lists) (edit : Edit) (number : ℕ) (o : Option TicketRow) → ticket_row t (ticket_code edit) ≡ o → kept_number t edit ≡ Some number → o ≡ None → ⊥
unfolding kept_number
kept_has_ticket t edit number o e f g = none_some number (rw (e, g) at f)

-- a kept edit stays kept, with its number, when another is entered
pub kept-later : (t : Lists) (kept other : Edit) (number : ℕ) → kept_number t kept ≡ Some number → ticket_row t (ticket_code other) ≡ None → kept_number (with_edit_entered t other) kept ≡ Some number
unfolding kept_number
kept-later t kept other number e absent =
    let differs : same_code (ticket_code other) (ticket_code kept) ≡ false =
    Rattle.std.proofs.lemmas.Bool.false_from_ne_true (same_code (ticket_code other) (ticket_code kept))
    (λ same. kept_has_ticket t kept number (ticket_row t (ticket_code kept)) refl e (subst (λ code. ticket_row t code ≡ None) (same_code-true (ticket_code other) (ticket_code kept) same) absent)) in
    let found : ticket_row (with_edit_entered t other) (ticket_code kept) ≡ ticket_row t (ticket_code kept) =
    ap (λ rows. row_of (λ row. row.code) code_cmp (ticket_code kept) rows) (tickets_entered t other)
    ∙ row_of-with_row_other (λ row. row.code) code_cmp code_cmp_total (ticket_of t other) (ticket_code kept) t.tickets differs in
    rw found e

step_keeps : (t : Lists) (kept other : Edit) (number : ℕ) (has : Option ℕ) (rule : Option RuleFault) → kept_number t other ≡ has → refused t other ≡ rule → kept_number t kept ≡ Some number → kept_number (step t other).1 kept ≡ Some number
step_keeps t kept other number (Some n) rule e f k = rw (step-kept t other n e) k
step_keeps t kept other number None (Some fault) e f k = rw (step-refused t other fault e f) k
step_keeps t kept other number None None e f k = rw (step-accepted t other e f) (kept-later t kept other number k (fresh t other e (unreused t other f)))

-- a kept edit stays kept, with its number, through each step
pub kept-step : (t : Lists) (kept other : Edit) (number : ℕ) → kept_number t kept ≡ Some number → kept_number (step t other).1 kept ≡ Some number
kept-step t kept other number k = step_keeps t kept other number (kept_number t other) (refused t other) refl refl k

pub kept-tables_after : (t : Lists) (kept : Edit) (number : ℕ) (edits : List Edit) → kept_number t kept ≡ Some number → kept_number (tables_after t edits) kept ≡ Some number
kept-tables_after t kept number [] k = k
kept-tables_after t kept number (edit ∷ edits) k = kept-tables_after (step t edit).1 kept number edits (kept-step t kept edit number k)

-- an edit of accepted ones is accepted at the tables that those before it leave
pub accepted-at : (t : Lists) (before rest : List Edit) (edit : Edit) → AreAccepted t (before ++ edit ∷ rest) → IsAccepted (tables_after t before) edit
accepted-at t [] rest edit a = a.0
accepted-at t (first ∷ before) rest edit a = accepted-at (step t first).1 before rest edit a.1

-- the tables after all of them are those after the ones behind it
pub after-at : (t : Lists) (before rest : List Edit) (edit : Edit) → tables_after t (before ++ edit ∷ rest) ≡ tables_after (step (tables_after t before) edit).1 rest
after-at t [] rest edit = refl
after-at t (first ∷ before) rest edit = after-at (step t first).1 before rest edit
