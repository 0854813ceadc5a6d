use Rattle.std.proofs.Common.{◌≡◌, ℕ, List, Option, None, length}
use Rattle.desk_totals.specs.Fit.{fit_with}
use Rattle.desk_totals.specs.Rounds.{rounds}
use Rattle.desk_totals.proofs.amounts.settled_amounts.Given as goal

abbrev pub invariant-loop-round : goal.invariant-loop-round
invariant-loop-round l =
    (length l.amounts.items ≡ length l.bill.nodes)
    × ((first : List (Option ℕ)) × (length first ≡ length l.bill.nodes) × (l.amounts.items ≡ rounds fit_with None l.bill l.own l._round first))
