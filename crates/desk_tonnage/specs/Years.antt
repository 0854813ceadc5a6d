-- What the units of a year weigh.
use Rattle.std.specs.Prelude.{ℕ, ◌*◌, ◌^◌, ◌<◌, ◌≤◌, List, Option, find, nat_le, option_map, sum_by}
use Rattle.std.specs.List.{AllByRecursion}
use Rattle.desk_rows.specs.Rows.{IsByKey}
use Rattle.desk_tonnage.specs.declared.entry.Entry.{Entry}
use Rattle.desk_tonnage.specs.Entries.{entries_in, entry_key, entry_key_cmp}

-- the sum over the entries of units times the mass of one, in micrograms
abbrev pub total_mass : List Entry → ℕ
total_mass entries = sum_by (λ entry. entry.units * entry.mass) entries

-- the sum over the entries of a year
abbrev pub entries_mass_in : ℕ → List Entry → ℕ
entries_mass_in year entries = total_mass (entries_in year entries)

-- the least year whose units weigh 2^128 micrograms or more: entries are ordered by year
abbrev pub too_heavy_entry_year : List Entry → Option ℕ
too_heavy_entry_year entries = option_map (λ entry. entry.year) (find (λ entry. nat_le (2 ^ 128) (entries_mass_in entry.year entries)) entries)

-- what is kept of the years: one entry a product and year in their order, with 1 to 1,000,000,000,000 units, and no year weighs
-- 2^128 micrograms or more
pub record IsYearly (entries : List Entry) : Type 0 where
  pub by_key : IsByKey entry_key entry_key_cmp entries
  pub units : AllByRecursion (λ entry. (1 ≤ entry.units) × (entry.units ≤ 1000000000000)) entries
  pub masses : (year : ℕ) → entries_mass_in year entries < 2 ^ 128
