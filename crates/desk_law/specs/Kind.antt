-- The kinds of electrical and electronic equipment, after Annex I to Directive 2011/65/EU.
use Rattle.std.specs.Prelude.{ℕ, Bool, ◌==◌, List, [], ◌∷◌, Option, find, codes}
use Rattle.std.specs.Ordering.{nat_cmp, on}
use Rattle.std.specs.Str.{bytes_eq}
use Rattle.std.specs.declared.cmp.Ordering.{Ordering}
use Rattle.desk_law.specs.declared.kind.Kind.{Kind}
use Rattle.desk_law.specs.declared.kind.Kind.TheVariants.{LargeHousehold, SmallHousehold, Telecommunications, Consumer}
use Rattle.desk_law.specs.declared.kind.Kind.TheVariants.{Lighting, Tool, ToyLeisureSports, Toy, MedicalDevice}
use Rattle.desk_law.specs.declared.kind.Kind.TheVariants.{InVitroDiagnostic, ControlInstrument, IndustrialInstrument}
use Rattle.desk_law.specs.declared.kind.Kind.TheVariants.{Dispenser, Other}

-- the code of a kind: the number of its category, with a letter for the narrower kind of a category that is split
unfoldable pub kind_code : Kind → List ℕ
kind_code LargeHousehold = codes "1"
kind_code SmallHousehold = codes "2"
kind_code Telecommunications = codes "3"
kind_code Consumer = codes "4"
kind_code Lighting = codes "5"
kind_code Tool = codes "6"
kind_code ToyLeisureSports = codes "7"
kind_code Toy = codes "7t"
kind_code MedicalDevice = codes "8"
kind_code InVitroDiagnostic = codes "8i"
kind_code ControlInstrument = codes "9"
kind_code IndustrialInstrument = codes "9i"
kind_code Dispenser = codes "10"
kind_code Other = codes "11"

-- every kind, in the order of the annex
abbrev pub all_kinds : List Kind
all_kinds =
    LargeHousehold ∷ SmallHousehold ∷ Telecommunications ∷ Consumer ∷ Lighting ∷ Tool ∷ ToyLeisureSports ∷ Toy
    ∷ MedicalDevice ∷ InVitroDiagnostic ∷ ControlInstrument ∷ IndustrialInstrument ∷ Dispenser ∷ Other ∷ []

-- the kind that has this code, if one does
unfoldable pub kind_of : List ℕ → Option Kind
kind_of code = find (λ kind. bytes_eq (kind_code kind) code) all_kinds

-- how many kinds stand before this one in the order of the annex
unfoldable pub kind_place : Kind → ℕ
kind_place LargeHousehold = 0
kind_place SmallHousehold = 1
kind_place Telecommunications = 2
kind_place Consumer = 3
kind_place Lighting = 4
kind_place Tool = 5
kind_place ToyLeisureSports = 6
kind_place Toy = 7
kind_place MedicalDevice = 8
kind_place InVitroDiagnostic = 9
kind_place ControlInstrument = 10
kind_place IndustrialInstrument = 11
kind_place Dispenser = 12
kind_place Other = 13

-- kinds are ordered by their places in the annex
abbrev pub kind_cmp : Kind → Kind → Ordering
kind_cmp = on kind_place nat_cmp

-- the two are the same kind
abbrev pub same_kind : Kind → Kind → Bool
same_kind a b = kind_place a == kind_place b
