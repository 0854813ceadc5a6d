-- A change of rows leaves the tickets, and a new ticket adds its text.
use Rattle.std.proofs.Common.{◌≡◌, ℕ, arith, ◌+◌, ◌≤◌, false, None, length, refl, ap, sum_by, nat_lt}
use Rattle.std.proofs.lemmas.Bool.{ltb-false}
use Rattle.desk_text.specs.Code.{code_cmp}
use Rattle.desk_rows.specs.Rows.{with_row}
use Rattle.desk_rows.proofs.Lookups.{sum_by-with_row}
use Rattle.desk_model.specs.declared.rows.ticket.TicketRow.{TicketRow}
use Rattle.desk_model.specs.declared.limits.TheConstants.{TEXT_LIMIT}
use Rattle.desk_model.specs.Lists.{Lists, ticket_row}
use Rattle.desk_history.specs.Limits.{has_too_much_text}
use Rattle.desk_tables.specs.Change.{with_change_made}
use Rattle.desk_tables.specs.Plan.{with_change_entered}
use Rattle.desk_tables.specs.declared.row_change.RowChange.{RowChange}
use Rattle.desk_tables.specs.declared.row_change.RowChange.TheVariants as change

pub tickets_stay : (t : Lists) (made : RowChange) → (with_change_made t made).tickets ≡ t.tickets
unfolding with_change_made
tickets_stay t (change.PutSubstance row room) = refl
tickets_stay t (change.PutMember row room) = refl
tickets_stay t (change.DropMember substance rule) = refl
tickets_stay t (change.PutMaterials rows room) = refl
tickets_stay t (change.PutPart row room) = refl
tickets_stay t (change.PutLine row room) = refl
tickets_stay t (change.DropLine parent child) = refl
tickets_stay t (change.PutProduct row room) = refl
tickets_stay t (change.PutExemption row room) = refl
tickets_stay t (change.DropExemption row) = refl
tickets_stay t (change.PutCandidate row room) = refl
tickets_stay t (change.PutShipment row room) = refl
tickets_stay t (change.DropShipment year product) = refl

pub text_with : (t : Lists) (ticket : TicketRow) → ticket_row t ticket.code ≡ None → sum_by (λ row. length row.text) (with_row (λ row. row.code) code_cmp ticket t.tickets) ≡ length ticket.text + sum_by (λ row. length row.text) t.tickets
text_with t ticket absent = sum_by-with_row (λ row. row.code) code_cmp (λ row. length row.text) ticket t.tickets absent

-- a ticket whose text fits leaves the sum of all texts within its limit
pub text_fits : (t : Lists) (ticket : TicketRow) (sum : ℕ) → ticket_row t ticket.code ≡ None → has_too_much_text (record t { tickets = with_row (λ row. row.code) code_cmp ticket t.tickets }) ≡ false → sum ≡ sum_by (λ row. length row.text) t.tickets → sum + length ticket.text ≤ TEXT_LIMIT
unfolding has_too_much_text
text_fits t ticket sum absent fits e =
    let after = text_with t ticket absent in
    let within = ltb-false TEXT_LIMIT _ fits in
    omega (arith, after, within, e)

pub sum_with : (t : Lists) (ticket : TicketRow) (sum : ℕ) → ticket_row t ticket.code ≡ None → sum ≡ sum_by (λ row. length row.text) t.tickets → sum + length ticket.text ≡ sum_by (λ row. length row.text) (with_row (λ row. row.code) code_cmp ticket t.tickets)
sum_with t ticket sum absent e = omega (arith, text_with t ticket absent, e)

-- what the sum of all texts is with one more: over the limit, or not
pub text_over : (t : Lists) (made : RowChange) (ticket : TicketRow) (sum : ℕ) → ticket_row t ticket.code ≡ None → sum ≡ sum_by (λ row. length row.text) t.tickets → nat_lt TEXT_LIMIT (sum + length ticket.text) ≡ has_too_much_text (with_change_entered t made ticket)
unfolding has_too_much_text
text_over t made ticket sum absent e = ap (nat_lt TEXT_LIMIT) (sum_with t ticket sum absent e)

-- in tables that keep their limits a text more is far from what a sum can hold
pub text_bound : (t : Lists) (sum : ℕ) → has_too_much_text t ≡ false → sum ≡ sum_by (λ row. length row.text) t.tickets → sum ≤ TEXT_LIMIT
unfolding has_too_much_text
text_bound t sum fits e = omega (arith, ltb-false TEXT_LIMIT _ fits, e)
