-- What an edit makes of the years.
use Rattle.std.specs.Prelude.{◌≡◌, ◌≤◌, List, Some, None}
use Rattle.desk_model.specs.declared.edit.Edit.{Edit}
use Rattle.desk_model.specs.declared.edit.Edit.TheVariants.{Ship, Unship}
use Rattle.desk_tonnage.specs.declared.entry.Entry.{Entry}
use Rattle.desk_tonnage.specs.Edits.{with_entry, without_entry_units}
use Rattle.desk_tonnage.specs.Entries.{entry_units}
use Rattle.desk_tonnage.specs.Kept.{IsAddPlan, IsMassPlan, KeptEntries}
use Rattle.desk_tonnage.specs.Masses.{with_masses}
use Rattle.desk_tonnage.specs.Years.{too_heavy_entry_year}
use Rattle.desk_engine.specs.declared.shipping.Shipping.{Shipping}
use Rattle.desk_engine.specs.declared.shipping.Shipping.TheVariants as shipping
use Rattle.desk_engine.specs.declared.years.YearsFault.{YearsFault}
use Rattle.desk_engine.specs.declared.years.YearsFault.TheVariants as fault
use Rattle.desk_engine.specs.declared.years.YearsPlan.{YearsPlan}
use Rattle.desk_engine.specs.declared.years.YearsPlan.TheVariants as plan

-- what an edit does to the units that were shipped
unfoldable pub shipping_of : Edit → Shipping
shipping_of (Ship ticket product year units) = shipping.Adds year product units
shipping_of (Unship ticket product year units) = shipping.Takes year product units
shipping_of _ = shipping.Leaves

-- the entries that a plan leaves
abbrev pub years_after : YearsPlan → List Entry → List Entry
years_after plan.Leaves entries = entries
years_after (plan.Adds adding) entries = with_entry adding.entry entries
years_after (plan.Takes year product units) entries = without_entry_units year product units entries
years_after (plan.Weighs masses) entries = with_masses masses entries

-- the plan can be carried out at these years as they stand
abbrev pub CanChange : KeptEntries → YearsPlan → Type 0
CanChange years plan.Leaves = Unit {0}
CanChange years (plan.Adds adding) = IsAddPlan years adding
CanChange years (plan.Takes year product units) = units ≤ entry_units year product years.entries
CanChange years (plan.Weighs masses) = IsMassPlan years.entries masses

-- the plan can be carried out at these years, and leaves these entries, of which no year weighs too much
pub record LeavesEntries (years : KeptEntries) (entries : List Entry) (plan : YearsPlan) : Type 0 where
  pub can : CanChange years plan
  pub leaves : years_after plan years.entries ≡ entries
  pub light : too_heavy_entry_year entries ≡ None

-- the fault tells the first year of these entries that weighs too much; of want of memory nothing is said
abbrev pub IsYearsFault : List Entry → YearsFault → Type 0
IsYearsFault entries (fault.TooLarge year) = too_heavy_entry_year entries ≡ Some year
IsYearsFault entries fault.OutOfMemory = Unit {0}
