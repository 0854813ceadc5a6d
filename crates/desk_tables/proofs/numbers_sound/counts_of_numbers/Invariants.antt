-- How often each number stands at the tickets so far.
use Rattle.std.proofs.Common.{◌≡◌, ℕ, ◌+◌, ◌<◌, count_by, length, take, get_or}
use Rattle.std.specs.Prelude.{◌==◌}
use Rattle.desk_tables.proofs.numbers_sound.counts_of_numbers.Given as goal

abbrev pub invariant-loop-ticket : goal.invariant-loop-ticket
invariant-loop-ticket l =
    (length l.counts.items ≡ length l.tickets)
    × ((place : ℕ) → place < length l.tickets → get_or l.counts.items place 0 ≡ count_by (λ ticket. ticket.number == place + 1) (take l.ticket-index l.tickets))
