use Rattle.std.proofs.Common.{◌≡◌, ℕ, List, ◌+◌, ◌*◌, drop}
use Rattle.desk_findings.specs.Above.{held_mass}
use Rattle.desk_bridge.specs.Own.{amount_held}
use Rattle.desk_bridge.proofs.holdings.add_substances.Given as goal

abbrev pub invariant-loop-one : goal.invariant-loop-one
invariant-loop-one l =
    (substance : List ℕ) → amount_held l.held.rows substance + l.count * held_mass substance (drop l.one-index l.substances) ≡ amount_held l.fn.held.rows substance + l.count * held_mass substance l.substances
