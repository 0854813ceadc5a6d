-- The numbers so far stand once, so that all do exactly if the rest does.
use Rattle.std.proofs.Common.{◌≡◌, drop}
use Rattle.std.specs.List.{list_all}
use Rattle.desk_history.specs.Breaches.{is_number_once}
use Rattle.desk_tables.proofs.numbers_sound.first_odd.Given as goal

abbrev pub invariant-loop-place : goal.invariant-loop-place
invariant-loop-place l = list_all (λ ticket. is_number_once l.tickets ticket.number) l.tickets ≡ list_all (λ ticket. is_number_once l.tickets ticket.number) (drop l.place l.tickets)
