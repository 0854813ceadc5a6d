-- How the faults are told.
use Rattle.std.specs.Prelude.{ℕ, List, ◌++◌, codes}
use Rattle.std.specs.Fmt.{decimal}
use Rattle.desk_tonnage.specs.declared.fault.TonnageFault.{TonnageFault}
use Rattle.desk_tonnage.specs.declared.fault.TonnageFault.TheVariants as tonnage
use Rattle.desk_tonnage.specs.declared.fault.TakeFault.{TakeFault}
use Rattle.desk_tonnage.specs.declared.fault.TakeFault.TheVariants as take
use Rattle.desk_tonnage.specs.declared.fault.MassFault.{MassFault}
use Rattle.desk_tonnage.specs.declared.fault.MassFault.TheVariants as mass

-- the words for a year whose units would weigh too much
abbrev pub year_words : ℕ → List ℕ
year_words year = codes "the units of " ++ decimal year ++ codes " weigh too much"

-- the words for units that aren't added
abbrev pub tonnage_fault_words : TonnageFault → List ℕ
tonnage_fault_words tonnage.UnitsTooLarge = codes "more than 1000000000000 units"
tonnage_fault_words (tonnage.YearTooLarge year) = year_words year
tonnage_fault_words tonnage.OutOfMemory = codes "out of memory"

-- the words for units that aren't taken off
abbrev pub take_fault_words : TakeFault → List ℕ
take_fault_words (take.BelowZero kept) = codes "only " ++ decimal kept ++ codes " units are kept"

-- the words for masses that products can't have
abbrev pub mass_fault_words : MassFault → List ℕ
mass_fault_words (mass.YearTooLarge year) = year_words year
