-- Masses in micrograms.
use Rattle.std.specs.Prelude.{ℕ, List}
use Rattle.std.specs.Option.{option_map_or}
use Rattle.desk_model.specs.Lists.{Lists, material_row}
use Rattle.desk_findings.specs.Rolled.{rolled}

-- a material has its own mass, and a part has none of its own
abbrev pub own_mass : Lists → List ℕ → ℕ
own_mass t code = option_map_or (λ material. material.mass) (material_row t code) 0

-- the mass of a material is its own; that of a part is the sum over its lines of count times the child's mass
abbrev pub mass : Lists → List ℕ → ℕ
mass t code = rolled t (own_mass t) code
