-- The ticket that an edit gets when it is accepted.
use Rattle.desk_model.specs.declared.edit.Edit.{Edit}
use Rattle.desk_model.specs.declared.rows.ticket.TicketRow.{TicketRow}
use Rattle.desk_model.specs.EditText.{edit_text, ticket_code}
use Rattle.desk_model.specs.Effect.{next_number}
use Rattle.desk_model.specs.Lists.{Lists}

-- the row of the edit's ticket, with the next number
abbrev pub ticket_for : Lists → Edit → TicketRow
ticket_for t edit = record { code = ticket_code edit; number = next_number t; text = edit_text edit }
