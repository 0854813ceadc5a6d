use Rattle.std.proofs.Common.{◌≡◌, take}
use Rattle.desk_tonnage.specs.Years.{total_mass}
use Rattle.desk_tonnage.proofs.sums.total_mass.Given as goal

abbrev pub invariant-loop-entry : goal.invariant-loop-entry
invariant-loop-entry l = l.total ≡ total_mass (take l.entry-index l.entries)
