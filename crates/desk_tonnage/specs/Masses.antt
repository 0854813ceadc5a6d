-- New masses of products.
use Rattle.std.specs.Prelude.{ℕ, List, Option, Some, None, Result, Ok, Err, map}
use Rattle.std.specs.Option.{option_map_or}
use Rattle.desk_text.specs.Code.{code_cmp}
use Rattle.desk_rows.specs.Rows.{IsByKey, row_of}
use Rattle.desk_tonnage.specs.declared.entry.Entry.{Entry}
use Rattle.desk_tonnage.specs.declared.product_mass.ProductMass.{ProductMass}
use Rattle.desk_tonnage.specs.declared.fault.MassFault.{MassFault}
use Rattle.desk_tonnage.specs.declared.fault.MassFault.TheVariants as fault
use Rattle.desk_tonnage.specs.Years.{too_heavy_entry_year}

-- the masses stand in the order of their products, each product once
abbrev pub AreByProduct : List ProductMass → Type 0
AreByProduct masses = IsByKey (λ weighed. weighed.product) code_cmp masses

-- the new mass of an entry's product, or the old one where there is no new one
abbrev pub mass_after : List ProductMass → Entry → ℕ
mass_after masses entry = option_map_or (λ weighed. weighed.mass) (row_of (λ weighed. weighed.product) code_cmp entry.product masses) entry.mass

-- the entry with the new mass of its product
abbrev pub with_mass : List ProductMass → Entry → Entry
with_mass masses entry = record entry { mass = mass_after masses entry }

-- the entries with the new masses
abbrev pub with_masses : List ProductMass → List Entry → List Entry
with_masses masses entries = map (with_mass masses) entries

-- the masses themselves, or the fault where some year would weigh too much with them
abbrev pub unless_heavy : Option ℕ → List ProductMass → Result (List ProductMass) MassFault
unless_heavy None masses = Ok masses
unless_heavy (Some year) masses = Err (fault.YearTooLarge year)

-- the masses, where the entries can take them, or else why they can't
abbrev pub masses_answer : List ProductMass → List Entry → Result (List ProductMass) MassFault
masses_answer masses entries = unless_heavy (too_heavy_entry_year (with_masses masses entries)) masses
