-- What is kept as callers see it, and what makes a plan good for it.
use Rattle.std.specs.Prelude.{◌≡◌, ℕ, ◌^◌, ◌<◌, ◌≤◌, List, None, length}
use Rattle.desk_tonnage.specs.declared.entry.Entry.{Entry}
use Rattle.desk_tonnage.specs.declared.product_mass.ProductMass.{ProductMass}
use Rattle.desk_tonnage.specs.Entries.{entry_of}
use Rattle.desk_tonnage.specs.Edits.{with_entry}
use Rattle.desk_tonnage.specs.Years.{too_heavy_entry_year, entries_mass_in}
use Rattle.desk_tonnage.specs.Masses.{with_masses}

-- the entries, and how many more of them need no memory
pub record KeptEntries : Type 0 where
  pub entries : List Entry
  pub room : ℕ

-- the product has no entry in the year, and there is no room for one
abbrev pub IsNewWithoutRoom : ℕ → List ℕ → KeptEntries → Type 0
IsNewWithoutRoom year product kept = (entry_of year product kept.entries ≡ None) × (kept.room ≡ 0)

-- an entry that is to be set, and for how many entries the list has room that comes with it
pub record PlannedEntry : Type 0 where
  pub entry : Entry
  pub room : ℕ

-- the entry has 1 to 1,000,000,000,000 units, its year doesn't weigh too much with it, and there is room for it
pub record IsAddPlan (kept : KeptEntries) (plan : PlannedEntry) : Type 0 where
  pub some : 1 ≤ plan.entry.units
  pub fits : plan.entry.units ≤ 1000000000000
  pub year_fits : entries_mass_in plan.entry.year (with_entry plan.entry kept.entries) < 2 ^ 128
  pub room : IsNewWithoutRoom plan.entry.year plan.entry.product kept → length kept.entries < plan.room

-- no year weighs too much with the new masses
abbrev pub IsMassPlan : List Entry → List ProductMass → Type 0
IsMassPlan entries masses = too_heavy_entry_year (with_masses masses entries) ≡ None
