-- Units added and taken off, and when they aren't.
use Rattle.std.specs.Prelude.{◌≡◌, ℕ, ◌+◌, ◌-◌, ◌^◌, ◌==◌, List, Option, Some, None, Result, Ok, Err, if◌then◌else◌, nat_le, nat_lt, IfSome}
use Rattle.desk_rows.specs.Rows.{with_row, without_row}
use Rattle.desk_tonnage.specs.declared.entry.Entry.{Entry}
use Rattle.desk_tonnage.specs.declared.fault.TonnageFault.{TonnageFault}
use Rattle.desk_tonnage.specs.declared.fault.TonnageFault.TheVariants.{UnitsTooLarge, YearTooLarge}
use Rattle.desk_tonnage.specs.declared.fault.TakeFault.{TakeFault}
use Rattle.desk_tonnage.specs.declared.fault.TakeFault.TheVariants.{BelowZero}
use Rattle.desk_tonnage.specs.Entries.{entry_key, entry_key_cmp, entry_of, entry_units}
use Rattle.desk_tonnage.specs.Years.{entries_mass_in}

-- the entry that is kept for a year and product, if there is one, has this mass
abbrev pub HasMass : ℕ → List ℕ → ℕ → List Entry → Type 0
HasMass year product mass entries = IfSome (entry_of year product entries) (λ entry. entry.mass ≡ mass)

-- the entry of a year and product with so many units more
abbrev pub entry_with : ℕ → List ℕ → ℕ → ℕ → List Entry → Entry
entry_with year product units mass entries =
    record { year = year; product = product; units = entry_units year product entries + units; mass = mass }

-- the entries with an entry in the place of the one of its year and product, or else in its order
abbrev pub with_entry : Entry → List Entry → List Entry
with_entry entry entries = with_row entry_key entry_key_cmp entry entries

-- the entries with so many units more
abbrev pub with_entry_units : ℕ → List ℕ → ℕ → ℕ → List Entry → List Entry
with_entry_units year product units mass entries = with_entry (entry_with year product units mass entries) entries

-- nothing, or why so many units more can't be kept: too many of the product in the year, or a year that weighs too much
abbrev pub add_answer : ℕ → List ℕ → ℕ → ℕ → List Entry → Result (Unit {0}) TonnageFault
add_answer year product units mass entries =
    if nat_lt 1000000000000 (entry_units year product entries + units) then Err UnitsTooLarge
    else (if nat_le (2 ^ 128) (entries_mass_in year (with_entry_units year product units mass entries)) then Err (YearTooLarge year) else Ok tt)

-- the entries with the units of this entry taken down by so many: an entry at 0 goes out
abbrev pub lowered : Option Entry → ℕ → List Entry → List Entry
lowered None units entries = entries
lowered (Some entry) units entries =
    if entry.units == units then without_row entry_key entry_key_cmp (entry_key entry) entries
    else with_entry (record entry { units = entry.units - units }) entries

-- the entries with so many units fewer
abbrev pub without_entry_units : ℕ → List ℕ → ℕ → List Entry → List Entry
without_entry_units year product units entries = lowered (entry_of year product entries) units entries

-- nothing, or that fewer units are kept than are to be taken off
abbrev pub take_answer : ℕ → List ℕ → ℕ → List Entry → Result (Unit {0}) TakeFault
take_answer year product units entries =
    if nat_lt (entry_units year product entries) units then Err (BelowZero (entry_units year product entries)) else Ok tt
