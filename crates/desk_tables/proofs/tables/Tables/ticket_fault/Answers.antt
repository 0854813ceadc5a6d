use Rattle.std.proofs.Common.{◌≡◌, ◌<◌, ◌∙◌, MatchOption, ap, get_or, length, subst, sym}
use Rattle.desk_model.specs.declared.row.Row.TheVariants.{Ticket}
use Rattle.desk_history.specs.Breaches.{Breaks}
use Rattle.desk_tables.specs.Soundness.{AreTicketsGood, IsTicketBroken}
use Rattle.desk_tables.proofs.Telling.{ticket_named}
use Rattle.desk_tables.proofs.tables.Tables.ticket_fault.Goals as goal

pub returns-in-Ok-Some-clause-told : goal.returns-in-Ok-Some-clause-told
returns-in-Ok-Some-clause-told c =
    let t = c.args.self.now.lists in
    let tickets = c.tickets.result.now in
    let place = c.in-Ok-Some.place in
    let row = c.index-tickets-place.result in
    let broken = subst (λ found. MatchOption found (AreTicketsGood t) (IsTicketBroken t)) c.in-Ok-Some.field-0-is c.in-Ok-Some.ensures in
    let here : row ≡ get_or t.tickets place row = c.index-tickets-place.is ∙ ap (λ all. get_or all place row) c.tickets.ensures in
    ticket_named t tickets place row c.fault_at.result c.tickets.ensures (subst (λ all. place < length all) (sym c.tickets.ensures) broken.0) c.index-tickets-place.is
    (subst (λ r. Breaks t (Ticket r)) (sym here) (broken.1 row)) c.fault_at.ensures
