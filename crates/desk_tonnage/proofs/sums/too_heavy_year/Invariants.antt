use Rattle.std.proofs.Common.{◌≡◌, drop}
use Rattle.desk_tonnage.specs.Masses.{with_masses}
use Rattle.desk_tonnage.proofs.HeavyYears.{heavy_from}
use Rattle.desk_tonnage.proofs.sums.too_heavy_year.Given as goal

abbrev pub invariant-loop-entry : goal.invariant-loop-entry
invariant-loop-entry l =
    heavy_from l.sum.year l.sum.mass (with_masses l.masses (drop l.entry-index l.entries)) ≡ heavy_from 0 0 (with_masses l.masses l.entries)
