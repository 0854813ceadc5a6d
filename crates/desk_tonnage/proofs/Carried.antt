-- Sums over entries, as far as a loop has come.
use Rattle.std.proofs.Common.{ℕ, ◌*◌, ◌≤◌, List, [], ◌∷◌, sum_by, arith}
use Rattle.std.specs.List.{AllByRecursion}
use Rattle.std.proofs.lemmas.List.Sums.{sum_by-cons}
use Rattle.std.proofs.Math.Nat.{mul-le-mul_left}
use Rattle.desk_tonnage.specs.declared.entry.Entry.{Entry}
use Rattle.desk_tonnage.specs.Years.{total_mass}

-- where no unit carries more than it weighs, the units of the entries don't
pub carried-le : (carried : List ℕ → ℕ) (entries : List Entry) → AllByRecursion (λ entry. carried entry.product ≤ entry.mass) entries → sum_by (λ entry. entry.units * carried entry.product) entries ≤ total_mass entries
carried-le carried [] a = omega arith
carried-le carried (entry ∷ entries) a =
    omega (arith, sum_by-cons (λ e. e.units * carried e.product) entry entries, sum_by-cons (λ e. e.units * e.mass) entry entries, mul-le-mul_left entry.units a.0, carried-le carried entries a.1)
