-- How many units of a product were shipped in a year, by year and product.
use Rattle.std.specs.Prelude.{ℕ, ◌==◌, List, Option, filter}
use Rattle.std.specs.Ordering.{on, then_cmp}
use Rattle.std.specs.Option.{option_map_or}
use Rattle.std.specs.Ordering.{nat_cmp}
use Rattle.std.specs.declared.cmp.Ordering.{Ordering}
use Rattle.desk_text.specs.Code.{code_cmp}
use Rattle.desk_rows.specs.Rows.{row_of}
use Rattle.desk_tonnage.specs.declared.entry.Entry.{Entry}

-- the key of an entry: its year and its product
abbrev pub entry_key : Entry → ℕ × List ℕ
entry_key entry = (entry.year, entry.product)

-- entries are ordered by year, and those of a year by the bytes of the product's code
abbrev pub entry_key_cmp : ℕ × List ℕ → ℕ × List ℕ → Ordering
entry_key_cmp = then_cmp (on (λ key. key.0) nat_cmp) (on (λ key. key.1) code_cmp)

-- the entry of a product in a year, if there is one
abbrev pub entry_of : ℕ → List ℕ → List Entry → Option Entry
entry_of year product entries = row_of entry_key entry_key_cmp (year, product) entries

-- how many units of a product are kept for a year: 0 where there is no entry
abbrev pub entry_units : ℕ → List ℕ → List Entry → ℕ
entry_units year product entries = option_map_or (λ entry. entry.units) (entry_of year product entries) 0

-- the entries of a year
abbrev pub entries_in : ℕ → List Entry → List Entry
entries_in year entries = filter (λ entry. entry.year == year) entries
