-- What the units of a year carry of a substance.
use Rattle.std.specs.Prelude.{ℕ, ◌*◌, ◌≤◌, List, sum_by}
use Rattle.std.specs.List.{AllByRecursion}
use Rattle.std.specs.Option.{option_map_or}
use Rattle.desk_text.specs.Code.{code_cmp}
use Rattle.desk_rows.specs.Rows.{IsByKey, row_of}
use Rattle.desk_tonnage.specs.declared.entry.Entry.{Entry}
use Rattle.desk_tonnage.specs.declared.product_load.ProductLoad.{ProductLoad}
use Rattle.desk_tonnage.specs.Entries.{entries_in}

-- the loads stand in the order of their products, each product once
abbrev pub AreLoadsByProduct : List ProductLoad → Type 0
AreLoadsByProduct loads = IsByKey (λ load. load.product) code_cmp loads

-- what one unit of a product carries: 0 where it has no load
abbrev pub carried_by : List ProductLoad → List ℕ → ℕ
carried_by loads product = option_map_or (λ load. load.carried) (row_of (λ load. load.product) code_cmp product loads) 0

-- no unit of the year carries more than it weighs
abbrev pub AreWithinMasses : ℕ → List ProductLoad → List Entry → Type 0
AreWithinMasses year loads entries = AllByRecursion (λ entry. carried_by loads entry.product ≤ entry.mass) (entries_in year entries)

-- the sum over the entries of units times what one carries, in micrograms
abbrev pub total_carried : List ProductLoad → List Entry → ℕ
total_carried loads entries = sum_by (λ entry. entry.units * carried_by loads entry.product) entries

-- the sum over the entries of a year
abbrev pub entries_tonnage : ℕ → List ProductLoad → List Entry → ℕ
entries_tonnage year loads entries = total_carried loads (entries_in year entries)
