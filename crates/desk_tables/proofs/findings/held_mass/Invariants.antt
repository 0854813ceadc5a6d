-- The mass is that in the substances to come.
use Rattle.std.proofs.Common.{◌≡◌, drop}
use Rattle.desk_findings.specs.Above.{held_mass}
use Rattle.desk_tables.proofs.findings.held_mass.Given as goal

abbrev pub invariant-loop-one : goal.invariant-loop-one
invariant-loop-one l = record { rest : held_mass l.substance l.held ≡ held_mass l.substance (drop l.one-index l.held) }
