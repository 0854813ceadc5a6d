-- What the products of a year's shipments carry weighs less than 2^128 micrograms.
use Rattle.std.proofs.Common.{◌≡◌, ℕ, ◌*◌, ◌^◌, ◌<◌, ◌≤◌, true, false, List, [], ◌∷◌, sum_by, refl, subst, arith, mul-le-mul_left}
use Rattle.std.specs.Prelude.{◌==◌, nat_le}
use Rattle.std.specs.List.{AllByRecursion}
use Rattle.std.proofs.lemmas.Bool.{eqb-true, leb-false}
use Rattle.desk_model.specs.declared.rows.shipment.ShipmentRow.{ShipmentRow}
use Rattle.desk_model.specs.Lists.{Lists}
use Rattle.desk_model.proofs.Elements.{each, each_filter, sum_le}
use Rattle.desk_findings.specs.Carried.{carried}
use Rattle.desk_findings.specs.Mass.{mass}
use Rattle.desk_findings.specs.Tonnage.{shipments_in}
use Rattle.desk_findings.specs.Totals.{too_heavy_year, year_mass}
use Rattle.desk_findings.proofs.Loads.{carried-le}
use Rattle.desk_history.specs.Sound.{Sound}
use Rattle.desk_history.proofs.SoundClauses.{right_of}
use Rattle.desk_history.proofs.Masses.{none_first}

less : (bound a b : ℕ) → a ≤ b → b < bound → a < bound
less bound a b h k = omega (arith, h, k)

module _ (t : Lists) (s : Sound t) where
  none_below : (bound : ℕ) → 0 < bound → (year : ℕ) (list : List ShipmentRow) → AllByRecursion (λ shipment. (nat_le bound (year_mass t shipment.year) ≡ false) × ((shipment.year == year) ≡ true)) list
      → shipments_in t year ≡ list → year_mass t year < bound
  none_below bound some year [] h e = rw e some
  none_below bound some year (shipment ∷ list) h e =
      subst (λ y. year_mass t y < bound) (eqb-true shipment.year year h.0.1) (leb-false bound (year_mass t shipment.year) h.0.0)

  year_light : (year : ℕ) → year_mass t year < 2 ^ 128
  unfolding too_heavy_year
  year_light year =
      none_below (2 ^ 128) (omega arith) year (shipments_in t year)
      (each_filter (λ shipment. nat_le (2 ^ 128) (year_mass t shipment.year) ≡ false) (λ shipment. shipment.year == year) t.shipments
      (none_first (λ shipment. shipment.year) (λ shipment. nat_le (2 ^ 128) (year_mass t shipment.year)) t.shipments s.sums.years_fit))
      refl

  pub tonnage_light : (year : ℕ) (substance : List ℕ) → sum_by (λ shipment. shipment.units * carried t substance shipment.product) (shipments_in t year) < 2 ^ 128
  tonnage_light year substance =
      less (2 ^ 128) _ (year_mass t year)
      (sum_le (λ shipment. shipment.units * carried t substance shipment.product) (λ shipment. shipment.units * mass t shipment.product) (shipments_in t year)
      (each (λ shipment. shipment.units * carried t substance shipment.product ≤ shipment.units * mass t shipment.product)
      (λ shipment.
      mul-le-mul_left shipment.units
      (carried-le t (right_of t s.consistent) s.consistent.codes_apart s.consistent.contents_fit s.consistent.acyclic substance shipment.product))
      (shipments_in t year)))
      (year_light year)
