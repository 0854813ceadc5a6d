use Rattle.std.proofs.Common.{◌≡◌, ◌++◌, take, drop}
use Rattle.desk_tonnage.specs.Masses.{with_masses}
use Rattle.desk_tonnage.proofs.edits.set_masses.Given as goal

abbrev pub invariant-loop-entry : goal.invariant-loop-entry
invariant-loop-entry l = l.entries ≡ with_masses l.masses (take l.entry-index l.initial.entries) ++ drop l.entry-index l.initial.entries
