use Rattle.std.proofs.Common.{◌≤◌, drop}
use Rattle.std.specs.List.{AllByRecursion}
use Rattle.desk_tonnage.specs.Tonnage.{carried_by}
use Rattle.desk_ground_tests.proofs.tonnage.are_within.Given as goal

-- what holds of the entries that are left holds of all
abbrev pub invariant-loop-entry : goal.invariant-loop-entry
invariant-loop-entry l =
    AllByRecursion (λ entry. carried_by l.loads entry.product ≤ entry.mass) (drop l.entry-index l.entries) → AllByRecursion (λ entry. carried_by l.loads entry.product ≤ entry.mass) l.entries
