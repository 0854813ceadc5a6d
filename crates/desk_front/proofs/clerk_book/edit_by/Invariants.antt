-- Until it is the clerk's turn, all stays as it was.
use Rattle.std.proofs.Common.{◌≡◌}
use Rattle.desk_front.proofs.clerk_book.edit_by.Given as goal

abbrev pub invariant-turns : goal.invariant-turns
invariant-turns g l = record { clerk : l.clerk ≡ l.fn.clerk; seat : l.seat ≡ l.fn.seat; out : l.out ≡ l.fn.out }
