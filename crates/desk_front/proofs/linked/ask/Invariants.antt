-- A seat that isn't let in is as it was.
use Rattle.std.proofs.Common.{◌≡◌}
use Rattle.desk_front.proofs.linked.ask.Given as goal

abbrev pub invariant-entries : goal.invariant-entries
invariant-entries g l = record { seat : l.seat ≡ l.fn.seat; out : l.out ≡ l.fn.out }
