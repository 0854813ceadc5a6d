-- The entries of the shipments.
use Rattle.std.proofs.Common.{◌≡◌, ℕ, zero, suc, ◌+◌, ◌-◌, ◌*◌, ◌^◌, ◌≤◌, true, false, cond, ◌==◌, ◌&&◌, List, [], ◌∷◌, filter, find, map, sum_by, Option, Some, None, is_eq, option_map, refl, sym, ap, ◌∙◌, subst, inl, inr, arith}
use Rattle.std.specs.Prelude.{nat_le, nat_lt, IfSome}
use Rattle.std.specs.List.Sorted.{IsStrictlySortedBy}
use Rattle.std.specs.Option.{option_map_or}
use Rattle.std.specs.declared.cmp.Ordering.{Ordering}
use Rattle.std.specs.declared.cmp.Ordering.TheVariants.{Less, Equal, Greater}
use Rattle.std.proofs.lemmas.Bool.{and_parts, cases_Bool, eqb-false, eqb-true, leb-true, ltb-false}
use Rattle.std.proofs.lemmas.List.Sums.{sum_by-cons}
use Rattle.desk_text.specs.Code.{code_cmp}
use Rattle.desk_rows.specs.Rows.{IsByKey, row_of, with_row, without_row}
use Rattle.desk_model.specs.declared.edit.Edit.{Edit}
use Rattle.desk_model.specs.declared.edit.Edit.TheVariants.{Ship, Unship}
use Rattle.desk_model.specs.declared.rows.shipment.ShipmentRow.{ShipmentRow}
use Rattle.desk_model.specs.Effect.{with_edit_entered, with_edit_made, units_of, with_units as shipped_units}
use Rattle.desk_model.specs.declared.limits.TheConstants.{UNITS_LIMIT}
use Rattle.desk_model.specs.Forms.{are_units, is_edit_in_form, is_year}
use Rattle.desk_model.specs.Values.{is_code}
use Rattle.desk_model.specs.Lists.{IsOrdered, Lists, shipment_key, shipment_key_cmp, shipment_row}
use Rattle.desk_findings.specs.Mass.{mass}
use Rattle.desk_findings.specs.Totals.{too_heavy_year, year_mass}
use Rattle.desk_history.specs.Affected.{seeds_of_new}
use Rattle.desk_history.specs.History.{PassesRows}
use Rattle.desk_history.specs.Refused.{ship_below_zero}
use Rattle.desk_history.specs.Rising.{changes_shipments}
use Rattle.desk_history.specs.Sound.{IsConsistent}
use Rattle.desk_history.proofs.MadeRows.{refuse_if-none}
use Rattle.desk_history.proofs.Rules.{unrefused}
use Rattle.desk_history.proofs.Unaffected.{mass_stays}
use Rattle.desk_history.proofs.Untouched.{same_shipments}
use Rattle.desk_history.proofs.Years.{found_key, unaffected}
use Rattle.desk_tonnage.specs.declared.entry.Entry.{Entry}
use Rattle.desk_tonnage.specs.declared.product_mass.ProductMass.{ProductMass}
use Rattle.desk_tonnage.specs.Edits.{HasMass, lowered, with_entry, with_entry_units, without_entry_units}
use Rattle.desk_tonnage.specs.Entries.{entry_key, entry_key_cmp, entry_of, entry_units}
use Rattle.desk_tonnage.specs.Masses.{with_masses}
use Rattle.desk_tonnage.specs.Years.{too_heavy_entry_year as too_heavy_entries, entries_mass_in as entries_mass}
use Rattle.desk_bridge.specs.Years.{AreNewMasses, entries_of, shipment_entry}

-- rows that are turned into others of the same keys
module _ {R S K : Type 0} (key : R → K) (other : S → K) (cmp : K → K → Ordering) (f : R → S) (same : (row : R) → other (f row) ≡ key row) where
  row_of-map : (k : K) (rows : List R) → row_of other cmp k (map f rows) ≡ option_map f (row_of key cmp k rows)
  row_of-map k [] = refl
  row_of-map k (row ∷ rows) =
      ap (λ j. cond (is_eq (cmp j k)) (Some (f row)) (row_of other cmp k (map f rows))) (same row)
      ∙ elim (is_eq (cmp (key row) k)) as (λ b. cond b (Some (f row)) (row_of other cmp k (map f rows)) ≡ option_map f (cond b (Some row) (row_of key cmp k rows))) [
        | true ↦ refl
        | false ↦ row_of-map k rows
      ]

  with_row-map : (new : R) (rows : List R) → with_row other cmp (f new) (map f rows) ≡ map f (with_row key cmp new rows)
  with_row-map new [] = refl
  with_row-map new (row ∷ rows) =
      ap (λ j. Rattle.std.specs.Ordering.match_ordering (cmp j (other (f new))) (f row ∷ with_row other cmp (f new) (map f rows)) (f new ∷ map f rows) (f new ∷ f row ∷ map f rows)) (same row)
      ∙ ap (λ j. Rattle.std.specs.Ordering.match_ordering (cmp (key row) j) (f row ∷ with_row other cmp (f new) (map f rows)) (f new ∷ map f rows) (f new ∷ f row ∷ map f rows)) (same new)
      ∙ elim (cmp (key row) (key new)) as (λ o. Rattle.std.specs.Ordering.match_ordering o (f row ∷ with_row other cmp (f new) (map f rows)) (f new ∷ map f rows) (f new ∷ f row ∷ map f rows) ≡ map f (Rattle.std.specs.Ordering.match_ordering o (row ∷ with_row key cmp new rows) (new ∷ rows) (new ∷ row ∷ rows))) [
        | Less ↦ ap (λ rest. f row ∷ rest) (with_row-map new rows)
        | Equal ↦ refl
        | Greater ↦ refl
      ]

  without_row-map : (k : K) (rows : List R) → without_row other cmp k (map f rows) ≡ map f (without_row key cmp k rows)
  without_row-map k [] = refl
  without_row-map k (row ∷ rows) =
      ap (λ j. cond (is_eq (cmp j k)) (map f rows) (f row ∷ without_row other cmp k (map f rows))) (same row)
      ∙ elim (is_eq (cmp (key row) k)) as (λ b. cond b (map f rows) (f row ∷ without_row other cmp k (map f rows)) ≡ map f (cond b rows (row ∷ without_row key cmp k rows))) [
        | true ↦ refl
        | false ↦ ap (λ rest. f row ∷ rest) (without_row-map k rows)
      ]

map_keys : (weigh : List ℕ → ℕ) (rows : List ShipmentRow) → map entry_key (map (shipment_entry weigh) rows) ≡ map shipment_key rows
map_keys weigh [] = refl
map_keys weigh (row ∷ rows) = ap (λ keys. shipment_key row ∷ keys) (map_keys weigh rows)

pub order : (t : Lists) → IsOrdered t → IsByKey entry_key entry_key_cmp (entries_of t)
order t ordered = subst (IsStrictlySortedBy entry_key_cmp) (sym (map_keys (mass t) t.shipments)) ordered.shipments

-- the entry of a year and product
found_entry : (weigh : List ℕ → ℕ) (year : ℕ) (product : List ℕ) (rows : List ShipmentRow) → entry_of year product (map (shipment_entry weigh) rows) ≡ option_map (shipment_entry weigh) (row_of shipment_key shipment_key_cmp (year, product) rows)
found_entry weigh year product rows = row_of-map shipment_key entry_key shipment_key_cmp (shipment_entry weigh) (λ row. refl) (year, product) rows

units_by : (weigh : List ℕ → ℕ) (o : Option ShipmentRow) → option_map_or (λ (entry : Entry). entry.units) (option_map (shipment_entry weigh) o) 0 ≡ option_map_or (λ row. row.units) o 0
units_by weigh None = refl
units_by weigh (Some row) = refl

pub units : (t : Lists) (year : ℕ) (product : List ℕ) → entry_units year product (entries_of t) ≡ units_of t year product
units t year product = ap (λ (o : Option Entry). option_map_or (λ entry. entry.units) o 0) (found_entry (mass t) year product t.shipments) ∙ units_by (mass t) (shipment_row t year product)

weighs_by : (weigh : List ℕ → ℕ) (year : ℕ) (product : List ℕ) (o : Option ShipmentRow) → ((row : ShipmentRow) → o ≡ Some row → (row.year ≡ year) × (row.product ≡ product)) → IfSome (option_map (shipment_entry weigh) o) (λ entry. entry.mass ≡ weigh product)
weighs_by weigh year product None found = tt
weighs_by weigh year product (Some row) found = ap weigh (found row refl).1

pub weighs : (t : Lists) (year : ℕ) (product : List ℕ) → HasMass year product (mass t product) (entries_of t)
weighs t year product =
    subst (λ (o : Option Entry). IfSome o (λ entry. entry.mass ≡ mass t product)) (sym (found_entry (mass t) year product t.shipments))
    (weighs_by (mass t) year product (shipment_row t year product) (found_key year product t.shipments))

masses_by : (weigh : List ℕ → ℕ) (year : ℕ) (rows : List ShipmentRow) → entries_mass year (map (shipment_entry weigh) rows) ≡ sum_by (λ row. row.units * weigh row.product) (filter (λ row. row.year == year) rows)
masses_by weigh year [] = refl
masses_by weigh year (row ∷ rows) =
    elim (cases_Bool (row.year == year)) [
      | inl here ↦
          rw here
          (omega (
            arith,
            sum_by-cons (λ (entry : Entry). entry.units * entry.mass) (shipment_entry weigh row) (filter (λ (entry : Entry). entry.year == year) (map (shipment_entry weigh) rows)),
            sum_by-cons (λ (shipment : ShipmentRow). shipment.units * weigh shipment.product) row (filter (λ (shipment : ShipmentRow). shipment.year == year) rows),
            masses_by weigh year rows,
          ))
      | inr other ↦ rw other (masses_by weigh year rows)
    ]

pub masses : (t : Lists) (year : ℕ) → entries_mass year (entries_of t) ≡ year_mass t year
masses t year = masses_by (mass t) year t.shipments

-- the first year that is too heavy
first_year : (t : Lists) (rows : List ShipmentRow) → option_map (λ (entry : Entry). entry.year) (find (λ entry. nat_le (2 ^ 128) (entries_mass entry.year (entries_of t))) (map (shipment_entry (mass t)) rows)) ≡ option_map (λ row. row.year) (find (λ row. nat_le (2 ^ 128) (year_mass t row.year)) rows)
first_year t [] = refl
first_year t (row ∷ rows) =
    ap (λ m. option_map (λ (entry : Entry). entry.year) (cond (nat_le (2 ^ 128) m) (Some (shipment_entry (mass t) row)) (find (λ entry. nat_le (2 ^ 128) (entries_mass entry.year (entries_of t))) (map (shipment_entry (mass t)) rows)))) (masses t row.year)
    ∙ elim (nat_le (2 ^ 128) (year_mass t row.year)) as (λ b. option_map (λ (entry : Entry). entry.year) (cond b (Some (shipment_entry (mass t) row)) (find (λ entry. nat_le (2 ^ 128) (entries_mass entry.year (entries_of t))) (map (shipment_entry (mass t)) rows))) ≡ option_map (λ (shipment : ShipmentRow). shipment.year) (cond b (Some row) (find (λ shipment. nat_le (2 ^ 128) (year_mass t shipment.year)) rows))) [
      | true ↦ refl
      | false ↦ first_year t rows
    ]

pub heavy : (t : Lists) → too_heavy_entries (entries_of t) ≡ too_heavy_year t
unfolding too_heavy_year
heavy t = first_year t t.shipments

-- the entry of a shipment that weighs so much
abbrev of_mass : ShipmentRow → ℕ → Entry
of_mass row n = record { year = row.year; product = row.product; units = row.units; mass = n }

-- entries by two masses that agree are the same
same_entries : (old new : List ℕ → ℕ) → ((product : List ℕ) → new product ≡ old product) → (rows : List ShipmentRow) → map (shipment_entry new) rows ≡ map (shipment_entry old) rows
same_entries old new same [] = refl
same_entries old new same (row ∷ rows) = λ i. of_mass row (same row.product i) ∷ same_entries old new same rows i

module _ (t : Lists) (s : IsConsistent t) where
  by_old : (edit : Edit) → PassesRows t edit → seeds_of_new t edit ≡ [] → entries_of (with_edit_entered t edit) ≡ map (shipment_entry (mass t)) (with_edit_entered t edit).shipments
  by_old edit passed none = same_entries (mass t) (mass (with_edit_entered t edit)) (λ product. mass_stays t s edit passed product (unaffected t edit none product)) (with_edit_entered t edit).shipments

  some_units : (year : ℕ) (product : List ℕ) (units : ℕ) → 1 ≤ units → (shipped_units t year product units).shipments ≡ with_row shipment_key shipment_key_cmp (record { year = year; product = product; units = units }) t.shipments
  some_units year product zero some = absurd (omega arith)
  some_units year product (suc fewer) some = refl

  -- the entries with another entry
  put : (year : ℕ) (product : List ℕ) (n : ℕ) → map (shipment_entry (mass t)) (with_row shipment_key shipment_key_cmp (record { year = year; product = product; units = n }) t.shipments) ≡ with_entry (record { year = year; product = product; units = n; mass = mass t product }) (entries_of t)
  put year product n = sym (with_row-map shipment_key entry_key shipment_key_cmp (shipment_entry (mass t)) (λ row. refl) (record { year = year; product = product; units = n }) t.shipments)

  shipments_of_ship : (ticket product : List ℕ) (year units : ℕ) → (with_edit_entered t (Ship ticket product year units)).shipments ≡ (shipped_units t year product (units_of t year product + units)).shipments
  unfolding with_edit_entered with_edit_made
  shipments_of_ship ticket product year units = refl

  shipments_of_unship : (ticket product : List ℕ) (year units : ℕ) → (with_edit_entered t (Unship ticket product year units)).shipments ≡ (shipped_units t year product (units_of t year product - units)).shipments
  unfolding with_edit_entered with_edit_made
  shipments_of_unship ticket product year units = refl

  some_shipped : (ticket product : List ℕ) (year units : ℕ) → is_edit_in_form (Ship ticket product year units) ≡ true → 1 ≤ units
  unfolding is_edit_in_form
  some_shipped ticket product year units form = leb-true 1 units (and_parts (nat_le 1 units) (nat_le units UNITS_LIMIT) (and_parts (is_code ticket && is_code product && is_year year) (are_units units) form).1).0

  some_taken : (ticket product : List ℕ) (year units : ℕ) → is_edit_in_form (Unship ticket product year units) ≡ true → 1 ≤ units
  unfolding is_edit_in_form
  some_taken ticket product year units form = leb-true 1 units (and_parts (nat_le 1 units) (nat_le units UNITS_LIMIT) (and_parts (is_code ticket && is_code product && is_year year) (are_units units) form).1).0

  no_seeds_of_ship : (ticket product : List ℕ) (year units : ℕ) → seeds_of_new t (Ship ticket product year units) ≡ []
  unfolding seeds_of_new
  no_seeds_of_ship ticket product year units = refl

  no_seeds_of_unship : (ticket product : List ℕ) (year units : ℕ) → seeds_of_new t (Unship ticket product year units) ≡ []
  unfolding seeds_of_new
  no_seeds_of_unship ticket product year units = refl

  pub shipped : (ticket product : List ℕ) (year more : ℕ) → PassesRows t (Ship ticket product year more) → entries_of (with_edit_entered t (Ship ticket product year more)) ≡ with_entry_units year product more (mass t product) (entries_of t)
  shipped ticket product year more passed =
      let some = some_shipped ticket product year more passed.in_form in
      by_old (Ship ticket product year more) passed (no_seeds_of_ship ticket product year more)
      ∙ ap (map (shipment_entry (mass t))) (shipments_of_ship ticket product year more ∙ some_units year product (units_of t year product + more) (omega (arith, some)))
      ∙ put year product (units_of t year product + more)
      ∙ ap (λ n. with_entry (record { year = year; product = product; units = n + more; mass = mass t product }) (entries_of t)) (sym (units t year product))

  lowered-all : (entry : Entry) (fewer : ℕ) (entries : List Entry) → (entry.units == fewer) ≡ true → lowered (Some entry) fewer entries ≡ without_row entry_key entry_key_cmp (entry_key entry) entries
  lowered-all entry fewer entries e = rw e refl

  lowered-some : (entry : Entry) (fewer : ℕ) (entries : List Entry) → (entry.units == fewer) ≡ false → lowered (Some entry) fewer entries ≡ with_entry (record entry { units = entry.units - fewer }) entries
  lowered-some entry fewer entries e = rw e refl

  -- the entries with fewer units of one that is kept
  lowered_by : (year : ℕ) (product : List ℕ) (fewer : ℕ) → 1 ≤ fewer → (o : Option ShipmentRow) → shipment_row t year product ≡ o → fewer ≤ option_map_or (λ row. row.units) o 0 →
      map (shipment_entry (mass t)) (shipped_units t year product (option_map_or (λ row. row.units) o 0 - fewer)).shipments ≡ lowered (option_map (shipment_entry (mass t)) o) fewer (entries_of t)
  lowered_by year product fewer some None e enough = absurd (omega (arith, some, enough))
  lowered_by year product fewer some (Some row) e enough =
      let key = found_key year product t.shipments row e in
      elim (cases_Bool (row.units == fewer)) [
        | inl same ↦
            let equal = eqb-true row.units fewer same in
            let none : row.units - fewer ≡ 0 = omega (arith, equal) in
            ap (λ n. map (shipment_entry (mass t)) (shipped_units t year product n).shipments) none
            ∙ sym (without_row-map shipment_key entry_key shipment_key_cmp (shipment_entry (mass t)) (λ row. refl) (year, product) t.shipments)
            ∙ (λ i. without_row entry_key entry_key_cmp (sym key.0 i, sym key.1 i) (entries_of t))
            ∙ sym (lowered-all (shipment_entry (mass t) row) fewer (entries_of t) same)
        | inr other ↦
            let differ : row.units ≡ fewer → ⊥ = eqb-false row.units fewer other in
            ap (map (shipment_entry (mass t))) (some_units year product (row.units - fewer) (left row.units fewer enough differ))
            ∙ put year product (row.units - fewer)
            ∙ (λ i. with_entry (record { year = sym key.0 i; product = sym key.1 i; units = row.units - fewer; mass = mass t (sym key.1 i) }) (entries_of t))
            ∙ sym (lowered-some (shipment_entry (mass t) row) fewer (entries_of t) other)
      ]
    where
      left : (a b : ℕ) → b ≤ a → (a ≡ b → ⊥) → 1 ≤ a - b
      left a b le differ = omega (arith, le, differ)

  pub taken_off : (ticket product : List ℕ) (year fewer : ℕ) → PassesRows t (Unship ticket product year fewer) → entries_of (with_edit_entered t (Unship ticket product year fewer)) ≡ without_entry_units year product fewer (entries_of t)
  unfolding ship_below_zero
  taken_off ticket product year fewer passed =
      let kept = units_of t year product in
      let enough = ltb-false kept fewer (refuse_if-none (nat_lt kept fewer) _ (unrefused t (Unship ticket product year fewer) passed).ship_below_zero) in
      by_old (Unship ticket product year fewer) passed (no_seeds_of_unship ticket product year fewer)
      ∙ ap (map (shipment_entry (mass t))) (shipments_of_unship ticket product year fewer)
      ∙ lowered_by year product fewer (some_taken ticket product year fewer passed.in_form) (shipment_row t year product) refl enough
      ∙ ap (λ o. lowered o fewer (entries_of t)) (sym (found_entry (mass t) year product t.shipments))

  -- an edit that ships nothing gives some products other masses
  new_mass : (edit : Edit) → PassesRows t edit → (weighed : List ProductMass) → AreNewMasses t edit weighed → (product : List ℕ) (o : Option ProductMass) → row_of (λ w. w.product) code_cmp product weighed ≡ o →
      mass (with_edit_entered t edit) product ≡ option_map_or (λ w. w.mass) o (mass t product)
  new_mass edit passed weighed are product None e = mass_stays t s edit passed product (are.others product e)
  new_mass edit passed weighed are product (Some w) e = sym (are.new product w e)

  weighed_rows : (edit : Edit) → PassesRows t edit → (weighed : List ProductMass) → AreNewMasses t edit weighed → (rows : List ShipmentRow) → map (shipment_entry (mass (with_edit_entered t edit))) rows ≡ with_masses weighed (map (shipment_entry (mass t)) rows)
  weighed_rows edit passed weighed are [] = refl
  weighed_rows edit passed weighed are (row ∷ rows) =
      let same = new_mass edit passed weighed are row.product (row_of (λ w. w.product) code_cmp row.product weighed) refl in
      λ i. of_mass row (same i) ∷ weighed_rows edit passed weighed are rows i

  pub reweighed : (edit : Edit) → PassesRows t edit → changes_shipments edit ≡ false → (weighed : List ProductMass) → AreNewMasses t edit weighed → entries_of (with_edit_entered t edit) ≡ with_masses weighed (entries_of t)
  reweighed edit passed none weighed are = ap (map (shipment_entry (mass (with_edit_entered t edit)))) (same_shipments t edit none) ∙ weighed_rows edit passed weighed are t.shipments
