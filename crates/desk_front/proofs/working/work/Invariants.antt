-- The seat's list goes on.
use mathlib.Core.List.{IsPrefix}
use Rattle.desk_front.proofs.working.work.Given as goal

abbrev pub invariant-lines : goal.invariant-lines
invariant-lines g l = record { begins : IsPrefix l.fn.seat.list l.seat.list }
