-- What edits make of the masses of years.
use Rattle.std.proofs.Common.{◌≡◌, ℕ, zero, suc, ◌+◌, ◌-◌, ◌*◌, ◌^◌, ◌≤◌, Bool, true, false, cond, not, ◌||◌, List, [], ◌∷◌, filter, sum_by, Option, Some, None, is_eq, is_some, refl, sym, ap, ◌∙◌, subst, ◌⊎◌, inl, inr, ⊎_elim, arith, mul-le-mul_left}
use Rattle.std.specs.Prelude.{nat_le, nat_lt, ◌==◌, if◌then◌else◌}
use Rattle.std.specs.List.{AllByRecursion, list_all, list_any}
use Rattle.std.specs.Option.{option_map_or}
use Rattle.std.specs.Ordering.{nat_cmp, ordering_then}
use Rattle.std.specs.declared.cmp.Ordering.{Ordering}
use Rattle.std.specs.declared.cmp.Ordering.TheVariants.{Less, Equal, Greater}
use Rattle.std.proofs.Math.Nat.{add-mul}
use Rattle.std.proofs.lemmas.Bool.{eqb-true, ltb-false, not-true, true≢false}
use Rattle.desk_text.specs.Code.{code_cmp, same_code}
use Rattle.desk_rows.specs.Rows.{IsByKey, row_of}
use Rattle.desk_rows.proofs.Sums.{sum_by-filter, sum_by-put, sum_by-without_row}
use Rattle.desk_model.specs.declared.edit.Edit.{Edit}
use Rattle.desk_model.specs.declared.edit.Edit.TheVariants.{Substance, Member, Declare, Part, Line, Unline, Product, Exemption, Unexempt, Candidate, Ship, Unship}
use Rattle.desk_model.specs.declared.rows.shipment.ShipmentRow.{ShipmentRow}
use Rattle.desk_model.specs.Effect.{with_edit_entered, with_edit_made, units_of, with_units}
use Rattle.desk_model.specs.Lists.{Lists, shipment_key, shipment_key_cmp, shipment_row}
use Rattle.desk_model.proofs.Elements.{each, each_from_all, each_map, sum_le, sum_same}
use Rattle.desk_model.proofs.Kept.{same_code-true, shipment_key_cmp_total}
use Rattle.desk_findings.specs.Mass.{mass}
use Rattle.desk_findings.specs.Tonnage.{shipments_in}
use Rattle.desk_findings.specs.Totals.{too_heavy_year, year_mass}
use Rattle.desk_findings.proofs.Groups.{same_number}
use Rattle.desk_history.specs.Affected.{is_affected, seeds_of_new}
use Rattle.desk_history.specs.History.{PassesRows}
use Rattle.desk_history.specs.Refused.{ship_below_zero, year_too_large}
use Rattle.desk_history.specs.Rising.{changes_shipments, may_raise_masses, may_raise_years}
use Rattle.desk_history.specs.Sound.{IsConsistent}
use Rattle.desk_history.proofs.MadeRows.{refuse_if-none}
use Rattle.desk_history.proofs.Masses.{below_bound, first_none, mass-le, none_first}
use Rattle.desk_history.proofs.Rules.{unrefused}
use Rattle.desk_history.proofs.Unaffected.{mass_stays}
use Rattle.desk_history.proofs.Untouched.{same_shipments}

-- the key of a shipment that was found
both_equal : (first second : Ordering) → is_eq (ordering_then first second) ≡ true → (is_eq first ≡ true) × (is_eq second ≡ true)
both_equal Less second e = absurd (true≢false (sym e))
both_equal Equal second e = (refl, e)
both_equal Greater second e = absurd (true≢false (sym e))

pub found_key : (year : ℕ) (product : List ℕ) (rows : List ShipmentRow) (row : ShipmentRow) → row_of shipment_key shipment_key_cmp (year, product) rows ≡ Some row → (row.year ≡ year) × (row.product ≡ product)
found_key year product [] row e = none_some row e
  where
    none_some : (x : ShipmentRow) {G : Type 0} → None ≡ Some x → G
    none_some x h = cc
found_key year product (first ∷ rows) row e =
    elim (is_eq (shipment_key_cmp (shipment_key first) (year, product))) as (λ b. is_eq (shipment_key_cmp (shipment_key first) (year, product)) ≡ b → cond b (Some first) (row_of shipment_key shipment_key_cmp (year, product) rows) ≡ Some row → (row.year ≡ year) × (row.product ≡ product)) [
      | true ↦
          λ here found.
          let parts = both_equal (nat_cmp first.year year) (code_cmp first.product product) here in
          let same : first ≡ row = some_some found in
          (sym (ap (λ r. r.year) same) ∙ eqb-true first.year year (sym (same_number first.year year) ∙ parts.0), sym (ap (λ r. r.product) same) ∙ same_code-true first.product product parts.1)
      | false ↦ λ other found. found_key year product rows row found
    ] refl e
  where
    some_some : {x y : ShipmentRow} → Some x ≡ Some y → x ≡ y
    some_some {x} {y} h = cc

-- what the shipments of a year weigh, by what a product weighs
module _ (weight : List ℕ → ℕ) (other : ℕ) where
  weighed : ShipmentRow → ℕ
  weighed row = cond (row.year == other) (row.units * weight row.product) 0

  year_sum : List ShipmentRow → ℕ
  year_sum rows = sum_by (λ row. row.units * weight row.product) (filter (λ row. row.year == other) rows)

  year_sum-is : (rows : List ShipmentRow) → year_sum rows ≡ sum_by weighed rows
  unfolding year_sum weighed
  year_sum-is rows = sum_by-filter (λ row. row.year == other) (λ row. row.units * weight row.product) rows

  nothing : (b : Bool) (n : ℕ) → n ≡ 0 → cond b n 0 ≡ 0
  nothing true n e = e
  nothing false n e = refl

  -- what the entry of a year and product gives
  entry : (year : ℕ) (product : List ℕ) (o : Option ShipmentRow) → ((row : ShipmentRow) → o ≡ Some row → (row.year ≡ year) × (row.product ≡ product)) → option_map_or weighed o 0 ≡ cond (year == other) (option_map_or (λ row. row.units) o 0 * weight product) 0
  unfolding weighed
  entry year product None found = sym (nothing (year == other) (0 * weight product) (omega arith))
  entry year product (Some row) found =
      let key = found row refl in
      rw (key.0, key.1) refl

  given_by : (year : ℕ) (product : List ℕ) (units : ℕ) → weighed (record { year = year; product = product; units = units }) ≡ cond (year == other) (units * weight product) 0
  unfolding weighed
  given_by year product units = refl

  module _ (t : Lists) (ordered : IsByKey shipment_key shipment_key_cmp t.shipments) where
    -- an entry of so many units, in place of the one that is kept
    units_change : (year : ℕ) (product : List ℕ) (units : ℕ) → year_sum (with_units t year product units).shipments + cond (year == other) (units_of t year product * weight product) 0 ≡ cond (year == other) (units * weight product) 0 + year_sum t.shipments
    units_change year product zero =
        let change = sum_by-without_row shipment_key shipment_key_cmp weighed (year, product) t.shipments in
        let kept = entry year product (shipment_row t year product) (found_key year product t.shipments) in
        omega (arith, change, kept, year_sum-is t.shipments, year_sum-is (with_units t year product zero).shipments, nothing (year == other) (0 * weight product) (omega arith))
    units_change year product (suc fewer) =
        let new : ShipmentRow = record { year = year; product = product; units = suc fewer } in
        let change = sum_by-put shipment_key shipment_key_cmp shipment_key_cmp_total weighed new t.shipments ordered in
        let kept = entry year product (shipment_row t year product) (found_key year product t.shipments) in
        let given : weighed new ≡ cond (year == other) (suc fewer * weight product) 0 = given_by year product (suc fewer) in
        omega (arith, change, kept, given, year_sum-is t.shipments, year_sum-is (with_units t year product (suc fewer)).shipments)

-- an edit without seeds affects nothing
pub unaffected : (t : Lists) (edit : Edit) → seeds_of_new t edit ≡ [] → (code : List ℕ) → is_affected t edit code ≡ false
unfolding is_affected
unaffected t edit none code = by_kept (is_some (Rattle.desk_history.specs.Step.kept_number t edit))
  where
    by_kept : (kept : Bool) → list_any (λ seed. same_code code seed || Rattle.desk_findings.specs.Reaches.reaches (with_edit_entered t edit) code seed) (if kept then [] else seeds_of_new t edit) ≡ false
    by_kept true = refl
    by_kept false = rw none refl

module _ (t : Lists) (s : IsConsistent t) where
  -- where masses stay a year's mass is that of its shipments
  by_old_masses : (edit : Edit) → PassesRows t edit → seeds_of_new t edit ≡ [] → (other : ℕ) → year_mass (with_edit_entered t edit) other ≡ year_sum (mass t) other (with_edit_entered t edit).shipments
  unfolding year_sum
  by_old_masses edit passed none other =
      sum_same (λ shipment. shipment.units * mass (with_edit_entered t edit) shipment.product) (λ shipment. shipment.units * mass t shipment.product) (shipments_in (with_edit_entered t edit) other)
      (each (λ shipment. shipment.units * mass (with_edit_entered t edit) shipment.product ≡ shipment.units * mass t shipment.product)
      (λ shipment. ap (λ n. shipment.units * n) (mass_stays t s edit passed shipment.product (unaffected t edit none shipment.product))) (shipments_in (with_edit_entered t edit) other))

  old_sum : (other : ℕ) → year_mass t other ≡ year_sum (mass t) other t.shipments
  unfolding year_sum
  old_sum other = refl

  more : (b : Bool) (kept units weight : ℕ) → cond b ((kept + units) * weight) 0 ≡ cond b (kept * weight) 0 + cond b (units * weight) 0
  more true kept units weight = add-mul kept units weight
  more false kept units weight = refl

  shipments_of_ship : (ticket product : List ℕ) (year units : ℕ) → (with_edit_entered t (Ship ticket product year units)).shipments ≡ (with_units t year product (units_of t year product + units)).shipments
  unfolding with_edit_entered with_edit_made
  shipments_of_ship ticket product year units = refl

  shipments_of_unship : (ticket product : List ℕ) (year units : ℕ) → (with_edit_entered t (Unship ticket product year units)).shipments ≡ (with_units t year product (units_of t year product - units)).shipments
  unfolding with_edit_entered with_edit_made
  shipments_of_unship ticket product year units = refl

  pub shipped : (ticket product : List ℕ) (year units : ℕ) → PassesRows t (Ship ticket product year units) → (other : ℕ) → year_mass (with_edit_entered t (Ship ticket product year units)) other ≡ year_mass t other + (if year == other then units * mass t product else 0)
  unfolding seeds_of_new
  shipped ticket product year units passed other =
      let kept = units_of t year product in
      let change = units_change (mass t) other t s.ordered.shipments year product (kept + units) in
      let after = by_old_masses (Ship ticket product year units) passed refl other ∙ ap (year_sum (mass t) other) (shipments_of_ship ticket product year units) in
      omega (arith, change, after, old_sum other, more (year == other) kept units (mass t product))

  pub taken_off : (ticket product : List ℕ) (year units : ℕ) → PassesRows t (Unship ticket product year units) → (other : ℕ) → year_mass (with_edit_entered t (Unship ticket product year units)) other + (if year == other then units * mass t product else 0) ≡ year_mass t other
  unfolding seeds_of_new ship_below_zero
  taken_off ticket product year units passed other =
      let kept = units_of t year product in
      let enough = ltb-false kept units (refuse_if-none (nat_lt kept units) _ (unrefused t (Unship ticket product year units) passed).ship_below_zero) in
      let whole : kept ≡ kept - units + units = omega (arith, enough) in
      let change = units_change (mass t) other t s.ordered.shipments year product (kept - units) in
      let after = by_old_masses (Unship ticket product year units) passed refl other ∙ ap (year_sum (mass t) other) (shipments_of_unship ticket product year units) in
      let split = ap (λ n. cond (year == other) (n * mass t product) 0) whole ∙ more (year == other) (kept - units) units (mass t product) in
      omega (arith, change, after, old_sum other, split)

  -- an edit that ships nothing leaves a year whose products it doesn't affect
  pub year_stays : (edit : Edit) → PassesRows t edit → changes_shipments edit ≡ false → (year : ℕ) → list_all (λ shipment. not (is_affected t edit shipment.product)) (shipments_in t year) ≡ true → year_mass (with_edit_entered t edit) year ≡ year_mass t year
  year_stays edit passed none year all =
      ap (λ rows. sum_by (λ shipment. shipment.units * mass (with_edit_entered t edit) shipment.product) (filter (λ shipment. shipment.year == year) rows)) (same_shipments t edit none)
      ∙ sum_same (λ shipment. shipment.units * mass (with_edit_entered t edit) shipment.product) (λ shipment. shipment.units * mass t shipment.product) (shipments_in t year)
      (each_map (λ shipment. not (is_affected t edit shipment.product) ≡ true) (λ shipment. shipment.units * mass (with_edit_entered t edit) shipment.product ≡ shipment.units * mass t shipment.product)
      (λ shipment free. ap (λ n. shipment.units * n) (mass_stays t s edit passed shipment.product (not-true (is_affected t edit shipment.product) free))) (shipments_in t year)
      (each_from_all (λ shipment. not (is_affected t edit shipment.product)) (shipments_in t year) all))

  -- a year's mass is no greater where nothing is heavier and no more is shipped
  year-le : (edit : Edit) → PassesRows t edit → may_raise_years edit ≡ false → (year : ℕ) → year_mass (with_edit_entered t edit) year ≤ year_mass t year
  year-le edit passed e year = by_sort edit passed e (changes_shipments edit) refl
    where
      fewer : (edit : Edit) → PassesRows t edit → may_raise_masses edit ≡ false → changes_shipments edit ≡ false → year_mass (with_edit_entered t edit) year ≤ year_mass t year
      fewer edit passed e none =
          let same = ap (λ rows. sum_by (λ shipment. shipment.units * mass (with_edit_entered t edit) shipment.product) (filter (λ shipment. shipment.year == year) rows)) (same_shipments t edit none) in
          let less =
          sum_le (λ shipment. shipment.units * mass (with_edit_entered t edit) shipment.product) (λ shipment. shipment.units * mass t shipment.product) (shipments_in t year)
          (each (λ shipment. shipment.units * mass (with_edit_entered t edit) shipment.product ≤ shipment.units * mass t shipment.product) (λ shipment. mul-le-mul_left shipment.units (mass-le t s edit passed e shipment.product)) (shipments_in t year)) in
          omega (arith, same, less)

      by_sort : (edit : Edit) → PassesRows t edit → may_raise_years edit ≡ false → (ships : Bool) → changes_shipments edit ≡ ships → year_mass (with_edit_entered t edit) year ≤ year_mass t year
      by_sort (Substance ticket code name cas) passed e ships f = fewer (Substance ticket code name cas) passed refl refl
      by_sort (Member ticket substance rule factor) passed e ships f = fewer (Member ticket substance rule factor) passed refl refl
      by_sort (Declare declaration) passed e ships f = absurd (true≢false e)
      by_sort (Part ticket code sort name) passed e ships f = fewer (Part ticket code sort name) passed refl refl
      by_sort (Line ticket parent child count) passed e ships f = absurd (true≢false e)
      by_sort (Unline ticket parent child) passed e ships f = fewer (Unline ticket parent child) passed refl refl
      by_sort (Product ticket part kind) passed e ships f = fewer (Product ticket part kind) passed refl refl
      by_sort (Exemption ticket exemption) passed e ships f = fewer (Exemption ticket exemption) passed refl refl
      by_sort (Unexempt ticket row) passed e ships f = fewer (Unexempt ticket row) passed refl refl
      by_sort (Candidate ticket substance day) passed e ships f = fewer (Candidate ticket substance day) passed refl refl
      by_sort (Ship ticket product other units) passed e ships f = absurd (true≢false e)
      by_sort (Unship ticket product other units) passed e ships f = omega (arith, taken_off ticket product other units passed year)

  -- a year that has no entry weighs nothing, and the mass of one that has is looked at
  none_or_some : (P : ℕ → Type 0) (year : ℕ) (rows : List ShipmentRow) → AllByRecursion (λ row. P row.year) rows → (filter (λ row. row.year == year) rows ≡ []) ⊎ P year
  none_or_some P year [] a = inl refl
  none_or_some P year (row ∷ rows) a =
      elim (row.year == year) as (λ b. (row.year == year) ≡ b → (cond b (row ∷ filter (λ r. r.year == year) rows) (filter (λ r. r.year == year) rows) ≡ []) ⊎ P year) [
        | true ↦ λ same. inr (subst P (eqb-true row.year year same) a.0)
        | false ↦ λ other. none_or_some P year rows a.1
      ] refl

  light_year : too_heavy_year t ≡ None → (year : ℕ) → nat_le (2 ^ 128) (year_mass t year) ≡ false
  unfolding too_heavy_year
  light_year fits year =
      ⊎_elim
      (λ none. rw none refl)
      (λ light. light)
      (none_or_some (λ y. nat_le (2 ^ 128) (year_mass t y) ≡ false) year t.shipments (none_first (λ row. row.year) (λ row. nat_le (2 ^ 128) (year_mass t row.year)) t.shipments fits))

  -- a year's mass that no edit of its sort can raise meets no refusal
  pub years_fit : too_heavy_year t ≡ None → (edit : Edit) → PassesRows t edit → may_raise_years edit ≡ false → year_too_large t edit ≡ None
  unfolding year_too_large too_heavy_year
  years_fit fits edit passed e =
      rw
      (first_none (λ row. row.year) (λ row. nat_le (2 ^ 128) (year_mass (with_edit_entered t edit) row.year)) (with_edit_entered t edit).shipments
      (each (λ row. nat_le (2 ^ 128) (year_mass (with_edit_entered t edit) row.year) ≡ false) (λ row. below_bound (2 ^ 128) (year_mass (with_edit_entered t edit) row.year) (year_mass t row.year) (year-le edit passed e row.year) (light_year fits row.year)) (with_edit_entered t edit).shipments))
      refl
