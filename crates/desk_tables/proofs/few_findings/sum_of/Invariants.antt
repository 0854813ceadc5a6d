-- The sum so far, of numbers that all fit.
use Rattle.std.proofs.Common.{◌≡◌, ◌≤◌, ℕ, List, map, sum_by, take}
use Rattle.desk_model.specs.declared.limits.TheConstants.{FINDING_LIMIT}
use Rattle.desk_totals.specs.Fit.{fit}
use Rattle.desk_tables.proofs.few_findings.sum_of.Given as goal

abbrev pub invariant-loop-way : goal.invariant-loop-way
invariant-loop-way l =
    (l.sum ≤ FINDING_LIMIT) × ((codes : List (List ℕ)) (count : List ℕ → ℕ) → l.ways ≡ map (λ code. fit (count code)) codes → l.sum ≡ sum_by count (take l.way-index codes))
