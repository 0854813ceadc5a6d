-- What a commit needs after the rows are changed.
use Rattle.std.proofs.Common.{◌≡◌, false, None, List, Option, ℕ, ap, sym, subst, ◌∙◌}
use Rattle.desk_text.specs.Code.{code_cmp}
use Rattle.desk_rows.specs.Held.{IsRoomFor}
use Rattle.desk_rows.specs.Rows.{row_of, with_row}
use Rattle.desk_model.specs.declared.rows.ticket.TicketRow.{TicketRow}
use Rattle.desk_model.specs.Lists.{Lists, ticket_row}
use Rattle.desk_history.specs.Limits.{has_too_much_text}
use Rattle.desk_tables.specs.Change.{with_change_made, rows_with_room}
use Rattle.desk_tables.specs.Desk.{Desk}
use Rattle.desk_tables.specs.Plan.{CanCommit, CanEnter, with_change_entered}
use Rattle.desk_tables.specs.declared.row_change.RowChange.{RowChange}
use Rattle.desk_tables.specs.declared.plan.TablesPlan.{TablesPlan}
use Rattle.desk_tables.specs.declared.plan.TablesPlan.TheVariants as plan
use Rattle.desk_tables.proofs.Tickets.{tickets_stay}

pub can_enter : (desk : Desk) (all : TablesPlan) (change : RowChange) (ticket : TicketRow) (room : Option ℕ) → all ≡ plan.New change ticket room → CanCommit desk all → CanEnter desk change ticket room
unfolding CanCommit
can_enter desk all change ticket room e can = subst (CanCommit desk) e can

module _ (desk after : Desk) (change : RowChange) (lists : after.lists ≡ with_change_made desk.lists change) (rooms : after.rooms.tickets ≡ desk.rooms.tickets) where
  same_tickets : after.lists.tickets ≡ desk.lists.tickets
  same_tickets = ap (λ t. t.tickets) lists ∙ tickets_stay desk.lists change

  pub room_after : (room : Option ℕ) → IsRoomFor 1 (rows_with_room desk.lists.tickets desk.rooms.tickets) room → IsRoomFor 1 (rows_with_room after.lists.tickets after.rooms.tickets) room
  room_after room h =
      subst (λ rows. IsRoomFor 1 (rows_with_room rows after.rooms.tickets) room) (sym same_tickets) (subst (λ n. IsRoomFor 1 (rows_with_room desk.lists.tickets n) room) (sym rooms) h)

  pub new_after : (ticket : TicketRow) → ticket_row desk.lists ticket.code ≡ None → ticket_row after.lists ticket.code ≡ None
  new_after ticket h = ap (row_of (λ row. row.code) code_cmp ticket.code) same_tickets ∙ h

  pub fits_after : (ticket : TicketRow) → has_too_much_text (with_change_entered desk.lists change ticket) ≡ false → has_too_much_text (record after.lists { tickets = with_row (λ row. row.code) code_cmp ticket after.lists.tickets }) ≡ false
  unfolding has_too_much_text
  fits_after ticket h = subst (λ rows. has_too_much_text (record after.lists { tickets = with_row (λ row. row.code) code_cmp ticket rows }) ≡ false) (sym same_tickets) h

  with_tickets : Lists → List TicketRow → Lists
  with_tickets t rows = record t { tickets = rows }

  pub planned_after : (ticket : TicketRow) → record after.lists { tickets = with_row (λ row. row.code) code_cmp ticket after.lists.tickets } ≡ record (with_change_made desk.lists change) { tickets = with_row (λ row. row.code) code_cmp ticket desk.lists.tickets }
  unfolding with_tickets
  planned_after ticket =
      ap (λ rows. with_tickets after.lists (with_row (λ row. row.code) code_cmp ticket rows)) same_tickets
      ∙ ap (λ t. with_tickets t (with_row (λ row. row.code) code_cmp ticket desk.lists.tickets)) lists
