-- The annexes of exemptions to Directive 2011/65/EU.
use Rattle.std.specs.Prelude.{ℕ, ◌==◌, List, [], ◌∷◌, Option, find}
use Rattle.desk_law.specs.declared.annex.Annex.{Annex}
use Rattle.desk_law.specs.declared.annex.Annex.TheVariants.{Three, Four}
use Rattle.desk_law.specs.declared.kind.Kind.{Kind}
use Rattle.desk_law.specs.declared.kind.Kind.TheVariants.{MedicalDevice, InVitroDiagnostic, ControlInstrument, IndustrialInstrument}
use Rattle.desk_law.specs.Kind.{all_kinds}

-- the number of an annex
unfoldable pub annex_number : Annex → ℕ
annex_number Three = 3
annex_number Four = 4

-- the annex that has this number, if one does
abbrev pub annex_of : ℕ → Option Annex
annex_of n = find (λ annex. annex_number annex == n) (Three ∷ Four ∷ [])

-- the kinds that an exemption of the annex may name: Annex IV is "specific to medical devices and monitoring and control
-- instruments"
unfoldable pub annex_kinds : Annex → List Kind
annex_kinds Three = all_kinds
annex_kinds Four = MedicalDevice ∷ InVitroDiagnostic ∷ ControlInstrument ∷ IndustrialInstrument ∷ []
