-- The years beside the tables: an entry for each shipment, with what one unit of its product weighs.
use Rattle.std.specs.Prelude.{◌≡◌, ℕ, false, List, Some, None, map}
use Rattle.desk_text.specs.Code.{code_cmp}
use Rattle.desk_rows.specs.Rows.{IsByKey, row_of}
use Rattle.desk_model.specs.declared.edit.Edit.{Edit}
use Rattle.desk_model.specs.declared.edit.Edit.TheVariants.{Ship, Unship}
use Rattle.desk_model.specs.declared.rows.shipment.ShipmentRow.{ShipmentRow}
use Rattle.desk_model.specs.Effect.{with_edit_entered, units_of}
use Rattle.desk_model.specs.Lists.{IsOrdered, Lists}
use Rattle.desk_findings.specs.Mass.{mass}
use Rattle.desk_findings.specs.Totals.{too_heavy_year, year_mass}
use Rattle.desk_history.specs.Affected.{is_affected}
use Rattle.desk_history.specs.History.{PassesRows}
use Rattle.desk_history.specs.Rising.{changes_shipments}
use Rattle.desk_history.specs.Sound.{IsConsistent}
use Rattle.desk_tonnage.specs.declared.entry.Entry.{Entry}
use Rattle.desk_tonnage.specs.declared.product_mass.ProductMass.{ProductMass}
use Rattle.desk_tonnage.specs.Edits.{HasMass, with_entry_units, without_entry_units}
use Rattle.desk_tonnage.specs.Entries.{entry_key, entry_key_cmp, entry_units}
use Rattle.desk_tonnage.specs.Masses.{with_masses}
use Rattle.desk_tonnage.specs.Years.{too_heavy_entry_year as too_heavy_entries, entries_mass_in as entries_mass}

-- the entry of a shipment, by what a product weighs
abbrev pub shipment_entry : (List ℕ → ℕ) → ShipmentRow → Entry
shipment_entry weigh shipment = record { year = shipment.year; product = shipment.product; units = shipment.units; mass = weigh shipment.product }

-- the entries of the shipments
abbrev pub entries_of : Lists → List Entry
entries_of t = map (shipment_entry (mass t)) t.shipments

-- the new masses are those after the edit, and the products that have none of them are not affected
pub record AreNewMasses (t : Lists) (edit : Edit) (masses : List ProductMass) : Type 0 where
  pub new : (product : List ℕ) (weighed : ProductMass) → row_of (λ weighed. weighed.product) code_cmp product masses ≡ Some weighed → weighed.mass ≡ mass (with_edit_entered t edit) product
  pub others : (product : List ℕ) → row_of (λ weighed. weighed.product) code_cmp product masses ≡ None → is_affected t edit product ≡ false

-- the entries of the shipments have the shipments' order, units and sums; so refusal 23 is what they tell
pub record YearsAgree : Type 0 where
  pub order : (t : Lists) → IsOrdered t → IsByKey entry_key entry_key_cmp (entries_of t)
  pub units : (t : Lists) (year : ℕ) (product : List ℕ) → entry_units year product (entries_of t) ≡ units_of t year product
  pub weighs : (t : Lists) (year : ℕ) (product : List ℕ) → HasMass year product (mass t product) (entries_of t)
  pub masses : (t : Lists) (year : ℕ) → entries_mass year (entries_of t) ≡ year_mass t year
  pub heavy : (t : Lists) → too_heavy_entries (entries_of t) ≡ too_heavy_year t

-- an edit changes the entries as it changes the shipments: units are added or taken off, or some products weigh something else
pub record EntriesStay : Type 0 where
  pub shipped : (t : Lists) → IsConsistent t → (ticket product : List ℕ) (year units : ℕ) → PassesRows t (Ship ticket product year units) →
      entries_of (with_edit_entered t (Ship ticket product year units)) ≡ with_entry_units year product units (mass t product) (entries_of t)
  pub taken_off : (t : Lists) → IsConsistent t → (ticket product : List ℕ) (year units : ℕ) → PassesRows t (Unship ticket product year units) →
      entries_of (with_edit_entered t (Unship ticket product year units)) ≡ without_entry_units year product units (entries_of t)
  pub weighed : (t : Lists) → IsConsistent t → (edit : Edit) → PassesRows t edit → changes_shipments edit ≡ false → (masses : List ProductMass) → AreNewMasses t edit masses →
      entries_of (with_edit_entered t edit) ≡ with_masses masses (entries_of t)
