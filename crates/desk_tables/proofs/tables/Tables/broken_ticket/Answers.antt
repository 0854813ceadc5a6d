use Rattle.std.proofs.Common.{◌≡◌, ◌<◌, true, false, MatchOption, get_or, length, sym, subst, ◌∙◌}
use Rattle.std.specs.List.{list_all}
use Rattle.desk_model.specs.declared.rows.ticket.TicketRow.{TicketRow}
use Rattle.desk_history.specs.Breaches.{is_number_once}
use Rattle.desk_tables.proofs.SoundTickets.{first_broken, tested_if}
use Rattle.desk_tables.proofs.tables.Tables.broken_ticket.Goals as goal

pub returns-then-has_too_many_tickets : goal.returns-then-has_too_many_tickets
returns-then-has_too_many_tickets c = first_broken c.args.self.now.lists (sym c.has_too_many_tickets.ensures ∙ c.if-has_too_many_tickets.true)

pub returns-in-None : goal.returns-in-None
returns-in-None c =
    let t = c.args.self.now.lists in
    let tickets = c.tickets.result.now in
    let once =
    subst (λ found. MatchOption found (list_all (λ ticket. is_number_once tickets ticket.number) tickets ≡ true) (λ place. (place < length tickets) × ((d : TicketRow) → is_number_once tickets (get_or tickets place d).number ≡ false)))
    c.in-None.is c.in_ok-place.ensures in
    let same = c.tickets.ensures ∙ sym c.tickets-in-None.ensures in
    tested_if t c.tickets-in-None.result.now c.tickets-in-None.ensures (sym c.has_too_many_tickets.ensures ∙ c.if-has_too_many_tickets.false)
    (subst (λ all. list_all (λ ticket. is_number_once all ticket.number) all ≡ true) same once) c.first_of_no_edit.result c.first_of_no_edit.ensures
