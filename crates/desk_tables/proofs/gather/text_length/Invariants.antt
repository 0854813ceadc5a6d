use Rattle.std.proofs.Common.{◌≡◌, ◌*◌, ◌≤◌, length, sum_by, take}
use Rattle.desk_tables.proofs.gather.text_length.Given as goal

abbrev pub invariant-loop-ticket : goal.invariant-loop-ticket
invariant-loop-ticket l = (l.length ≡ sum_by (λ ticket. length ticket.text) (take l.ticket-index l.tickets)) × (l.length ≤ l.ticket-index * 18446744073709551615)
