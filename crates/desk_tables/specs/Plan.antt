-- A plan of what one edit does to the tables. It is made while they stand, and can be refused; carrying it out can't.
use Rattle.std.specs.Prelude.{◌≡◌, ℕ, false, Option, None, Ok}
use Rattle.desk_text.specs.Code.{code_cmp}
use Rattle.desk_rows.specs.Held.{IsRoomFor}
use Rattle.desk_rows.specs.Rows.{with_row}
use Rattle.desk_model.specs.declared.edit.Edit.{Edit}
use Rattle.desk_model.specs.Lists.{Lists, ticket_row}
use Rattle.desk_history.specs.Limits.{has_too_much_text}
use Rattle.desk_history.specs.Step.{step}
use Rattle.desk_tables.specs.Change.{IsReady, with_change_made, rows_with_room}
use Rattle.desk_tables.specs.Desk.{Desk}
use Rattle.desk_tables.specs.declared.row_change.RowChange.{RowChange}
use Rattle.desk_model.specs.declared.rows.ticket.TicketRow.{TicketRow}
use Rattle.desk_tables.specs.declared.plan.TablesPlan.{TablesPlan}
use Rattle.desk_tables.specs.declared.plan.TablesPlan.TheVariants as plan

-- the tables with a change of rows made and a ticket entered
abbrev pub with_change_entered : Lists → RowChange → TicketRow → Lists
with_change_entered t change ticket = record (with_change_made t change) { tickets = with_row (λ row. row.code) code_cmp ticket t.tickets }

-- the tables that the plan leaves
unfoldable pub tables_planned : Lists → TablesPlan → Lists
tables_planned t (plan.Kept number) = t
tables_planned t (plan.New change ticket room) = with_change_entered t change ticket

-- the number that the plan gives its edit
unfoldable pub plan_number : TablesPlan → ℕ
plan_number (plan.Kept number) = number
plan_number (plan.New change ticket room) = ticket.number

-- a new edit can be entered at these tables as they stand: its rows and its ticket have room, its ticket isn't kept, and its text fits
pub record CanEnter (desk : Desk) (change : RowChange) (ticket : TicketRow) (room : Option ℕ) : Type 0 where
  pub rows_ready : IsReady desk change
  pub ticket_has_room : IsRoomFor 1 (rows_with_room desk.lists.tickets desk.rooms.tickets) room
  pub ticket_is_new : ticket_row desk.lists ticket.code ≡ None
  pub text_fits : has_too_much_text (with_change_entered desk.lists change ticket) ≡ false

-- the plan can be carried out at these tables as they stand
unfoldable pub CanCommit : Desk → TablesPlan → Type 0
CanCommit desk (plan.Kept number) = Unit {0}
CanCommit desk (plan.New change ticket room) = CanEnter desk change ticket room

-- the plan is the edit's, prepared at these tables as they stand: it answers and leaves what the edit's step does
abbrev pub IsPlan : Desk → Edit → TablesPlan → Type 0
IsPlan desk edit plan = (step desk.lists edit ≡ (Ok (plan_number plan), tables_planned desk.lists plan)) × CanCommit desk plan
