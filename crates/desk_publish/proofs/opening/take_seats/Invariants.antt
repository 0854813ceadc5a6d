use Rattle.std.proofs.Common.{◌≡◌, [], true, length, All}
use Rattle.desk_publish.proofs.opening.take_seats.Given as goal

abbrev pub invariant-loop : goal.invariant-loop
invariant-loop g l = (l.version ≡ []) × (length l.seats.items ≡ l.counter) × All (λ seat. seat ≡ record { list = []; is_sure = true }) l.seats.items
