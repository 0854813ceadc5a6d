use Rattle.std.proofs.Common.{◌≡◌, ◌≤◌, Some, length, map, take, vec_len, vec_capacity}
use Rattle.desk_totals.proofs.amounts.own_amounts.Given as goal

abbrev pub invariant-loop-amount : goal.invariant-loop-amount
invariant-loop-amount l =
    (vec_len l.amounts ≡ l.amount-index) × (length l.own ≤ vec_capacity l.amounts) × (l.amounts.items ≡ map Some (take l.amount-index l.own))
