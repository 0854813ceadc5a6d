-- A part that is too heavy or has findings that are too many, a shipment of a year that is too heavy, and a line on a cycle break a clause.
use Rattle.std.proofs.Common.{◌≡◌, ℕ, ◌^◌, true, false, not, ◌&&◌, ◌||◌, List, [], ◌∷◌, Option, Some, None, length, find, option_map, get_or, inl, inr, refl, sym, ap, subst, ◌∙◌, arith}
use Rattle.std.specs.Prelude.{nat_le, nat_lt, ◌==◌}
use Rattle.std.specs.List.{list_any}
use Rattle.std.proofs.lemmas.Bool.{and_from, and_parts, cases_Bool, or_left, or_right, true≢false}
use Rattle.std.proofs.lemmas.Bool.Decides.{nat_tests}
use Rattle.desk_text.specs.Code.{same_code}
use Rattle.desk_model.specs.declared.row.Row.TheVariants.{Line, Shipment}
use Rattle.desk_model.specs.declared.rows.line.LineRow.{LineRow}
use Rattle.desk_model.specs.declared.rows.part.PartRow.{PartRow}
use Rattle.desk_model.specs.declared.rows.shipment.ShipmentRow.{ShipmentRow}
use Rattle.desk_model.specs.declared.table_name.TableName.TheVariants.{Lines, Parts, Shipments}
use Rattle.desk_model.specs.Lists.{Lists, is_part}
use Rattle.desk_model.proofs.Elements.{any_map, each}
use Rattle.desk_model.proofs.Kept.{kept_any, same_code-from}
use Rattle.desk_findings.specs.Findings.{findings}
use Rattle.desk_findings.specs.Mass.{mass}
use Rattle.desk_findings.specs.Reaches.{is_or_reaches}
use Rattle.desk_findings.specs.Totals.{has_too_many_findings, too_heavy_part, too_heavy_year, year_mass}
use Rattle.desk_history.specs.Breaches.{Breaks, breaks_part}
use Rattle.desk_history.specs.Limits.{is_overfull}
use Rattle.desk_history.specs.Fits.{fits_line, fits_part, fits_shipment}
use Rattle.desk_history.proofs.Unsound.{heavy_breaks}
use Rattle.desk_totals.specs.Cycles.{IsOnCycle}

module _ (t : Lists) where
  -- the line at a place of a cycle
  pub cycle_breaks : (lines : List LineRow) (place : ℕ) (row : LineRow) → lines ≡ t.lines → row ≡ get_or lines place row → IsOnCycle t place → Breaks t (Line row)
  cycle_breaks lines place row same is on =
      let here : row ≡ get_or t.lines place row = is ∙ ap (λ all. get_or all place row) same in
      let reached : is_or_reaches t row.child row.parent ≡ true = subst (λ line. is_or_reaches t line.child line.parent ≡ true) (sym here) (on.1 row) in
      or_left (not (fits_line t row) || is_or_reaches t row.child row.parent) (is_overfull t Lines) (or_right (not (fits_line t row)) (is_or_reaches t row.child row.parent) reached)

  found_breaks : (row : PartRow) → (has_too_many_findings t && nat_lt 0 (length (findings t row.code))) ≡ true → breaks_part t row ≡ true
  found_breaks row e =
      or_left (not (fits_part t row) || nat_le (2 ^ 128) (mass t row.code) || has_too_many_findings t && nat_lt 0 (length (findings t row.code))) (is_overfull t Parts)
      (or_right (not (fits_part t row) || nat_le (2 ^ 128) (mass t row.code)) (has_too_many_findings t && nat_lt 0 (length (findings t row.code))) e)

  some_inside : {G : Type 0} (code : List ℕ) → ◌≡◌ {A = Option (List ℕ)} None (Some code) → G
  some_inside code e = cc

  same_inside : (a b : List ℕ) → ◌≡◌ {A = Option (List ℕ)} (Some a) (Some b) → a ≡ b
  same_inside a b e = cc

  first_breaks : (parts : List PartRow) (code : List ℕ) → option_map (λ part. part.code) (find (λ part. nat_le (2 ^ 128) (mass t part.code)) parts) ≡ Some code → list_any (λ row. same_code row.code code && breaks_part t row) parts ≡ true
  first_breaks [] code e = some_inside code e
  first_breaks (part ∷ parts) code e =
      elim (cases_Bool (nat_le (2 ^ 128) (mass t part.code))) [
        | inl heavy ↦
            let is : part.code ≡ code = same_inside part.code code (rw heavy at e) in
            or_left (same_code part.code code && breaks_part t part) (list_any (λ row. same_code row.code code && breaks_part t row) parts)
            (and_from (same_code part.code code) (breaks_part t part) (same_code-from part.code code is) (heavy_breaks t part heavy))
        | inr light ↦
            or_right (same_code part.code code && breaks_part t part) (list_any (λ row. same_code row.code code && breaks_part t row) parts) (first_breaks parts code (rw light at e))
      ]

  -- the part that is told as too heavy
  pub heavy_part : (code : List ℕ) → too_heavy_part t ≡ Some code → list_any (λ row. same_code row.code code && breaks_part t row) t.parts ≡ true
  unfolding too_heavy_part
  heavy_part code e = first_breaks t.parts code e

  -- a part with findings, where there are too many
  pub found_part : (code : List ℕ) → has_too_many_findings t ≡ true → is_part t code ≡ true → nat_lt 0 (length (findings t code)) ≡ true → list_any (λ row. same_code row.code code && breaks_part t row) t.parts ≡ true
  found_part code many kept some =
      any_map (λ row. same_code row.code code && (has_too_many_findings t && nat_lt 0 (length (findings t row.code)))) (λ row. same_code row.code code && breaks_part t row) t.parts
      (each (λ row. (same_code row.code code && (has_too_many_findings t && nat_lt 0 (length (findings t row.code)))) ≡ true → (same_code row.code code && breaks_part t row) ≡ true)
      (λ row e.
      let parts = and_parts (same_code row.code code) (has_too_many_findings t && nat_lt 0 (length (findings t row.code))) e in
      and_from (same_code row.code code) (breaks_part t row) parts.0 (found_breaks row parts.1)) t.parts)
      (kept_any (λ row. row.code) (λ c. same_code c code && (has_too_many_findings t && nat_lt 0 (length (findings t c)))) code t.parts kept
      (and_from (same_code code code) (has_too_many_findings t && nat_lt 0 (length (findings t code))) (same_code-from code code refl) (and_from (has_too_many_findings t) (nat_lt 0 (length (findings t code))) many some)))

  no_year : {G : Type 0} (year : ℕ) → ◌≡◌ {A = Option ℕ} None (Some year) → G
  no_year year e = cc

  same_year : (a b : ℕ) → ◌≡◌ {A = Option ℕ} (Some a) (Some b) → a ≡ b
  same_year a b e = cc

  first_year : (shipments : List ShipmentRow) (year : ℕ) → option_map (λ shipment. shipment.year) (find (λ shipment. nat_le (2 ^ 128) (year_mass t shipment.year)) shipments) ≡ Some year
      → (list_any (λ shipment. shipment.year == year) shipments ≡ true) × (nat_le (2 ^ 128) (year_mass t year) ≡ true)
  first_year [] year e = no_year year e
  first_year (shipment ∷ shipments) year e =
      elim (cases_Bool (nat_le (2 ^ 128) (year_mass t shipment.year))) [
        | inl heavy ↦
            let is : shipment.year ≡ year = same_year shipment.year year (rw heavy at e) in
            (or_left (shipment.year == year) (list_any (λ other. other.year == year) shipments) (grind (arith, is, nat_tests)), ap (λ y. nat_le (2 ^ 128) (year_mass t y)) (sym is) ∙ heavy)
        | inr light ↦
            let rest = first_year shipments year (rw light at e) in
            (or_right (shipment.year == year) (list_any (λ other. other.year == year) shipments) rest.0, rest.1)
      ]

  -- a year that is told as too heavy has a shipment, which breaks a clause
  pub heavy_year : (year : ℕ) → too_heavy_year t ≡ Some year → (list_any (λ shipment. shipment.year == year) t.shipments ≡ true) × (nat_le (2 ^ 128) (year_mass t year) ≡ true)
  unfolding too_heavy_year
  heavy_year year e = first_year t.shipments year e

  pub year_breaks : (row : ShipmentRow) (year : ℕ) → row.year ≡ year → nat_le (2 ^ 128) (year_mass t year) ≡ true → Breaks t (Shipment row)
  year_breaks row year is heavy =
      or_left (not (fits_shipment t row) || nat_le (2 ^ 128) (year_mass t row.year)) (is_overfull t Shipments)
      (or_right (not (fits_shipment t row)) (nat_le (2 ^ 128) (year_mass t row.year)) (ap (λ y. nat_le (2 ^ 128) (year_mass t y)) is ∙ heavy))

  pub year_has_shipment : (shipments : List ShipmentRow) (year : ℕ) → shipments ≡ t.shipments → too_heavy_year t ≡ Some year → list_any (λ shipment. shipment.year == year) shipments ≡ false → ⊥
  year_has_shipment shipments year same heavy none =
      true≢false (sym (ap (list_any (λ shipment. shipment.year == year)) same ∙ (heavy_year year heavy).0) ∙ none)
