use Rattle.std.proofs.Common.{◌≡◌, drop}
use Rattle.std.specs.List.{list_all}
use Rattle.std.specs.Prelude.{nat_le}
use Rattle.desk_model.specs.declared.limits.TheConstants.{MASS_LIMIT}
use Rattle.desk_tables.proofs.content.are_masses_in_range.Given as goal

abbrev pub invariant-loop-one : goal.invariant-loop-one
invariant-loop-one l = list_all (λ one. nat_le one.mass MASS_LIMIT) l.held ≡ list_all (λ one. nat_le one.mass MASS_LIMIT) (drop l.one-index l.held)
