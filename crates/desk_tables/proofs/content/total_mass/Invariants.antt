use Rattle.std.proofs.Common.{◌≡◌, ◌*◌, ◌≤◌, sum_by, take}
use Rattle.desk_tables.proofs.content.total_mass.Given as goal

abbrev pub invariant-loop-one : goal.invariant-loop-one
invariant-loop-one l = (l.total ≡ sum_by (λ one. one.mass) (take l.one-index l.held)) × (l.total ≤ l.one-index * 18446744073709551615)
