-- The first year that is too heavy, of years in rising order, is that of the first shipment of a year that is.
use Rattle.std.proofs.Common.{◌≡◌, ℕ, zero, suc, ◌+◌, ◌*◌, ◌^◌, ◌<◌, ◌≤◌, Bool, true, false, ◌&&◌, List, [], ◌∷◌, ◌++◌, Option, Some, None, is_some, map, find, sum_by, length, get_or, take, refl, sym, ap, ◌∙◌, subst, inl, inr, Less, Equal, arith}
use Rattle.std.specs.Prelude.{⊤, ◌==◌, nat_le, nat_lt, option_map, if◌then◌else◌}
use Rattle.std.specs.List.{AllByRecursion}
use Rattle.std.specs.Ordering.{MatchOrdering, nat_cmp}
use Rattle.std.specs.Cmp.{ranks}
use Rattle.std.proofs.lemmas.Bool.{and_parts, cases_lt, false≢true, le-leb, leb-true}
use Rattle.std.proofs.lemmas.List.{append_assoc, get_or-map}
use Rattle.std.proofs.lemmas.List.Sums.{sum_by_more}
use Rattle.desk_text.specs.Code.{code_cmp}
use Rattle.desk_rows.specs.Place.{StandsAt}
use Rattle.desk_rows.specs.Runs.{IsOneRun}
use Rattle.desk_model.specs.declared.limits.TheConstants.{FIRST_SHIPMENT_YEAR, LAST_SHIPMENT_YEAR}
use Rattle.desk_model.specs.declared.rows.part.PartRow.{PartRow}
use Rattle.desk_model.specs.declared.rows.shipment.ShipmentRow.{ShipmentRow}
use Rattle.desk_model.specs.Forms.{are_units, is_shipment_row, is_year}
use Rattle.desk_model.specs.Lists.{Lists, is_part, is_product}
use Rattle.desk_model.specs.Values.{is_code}
use Rattle.desk_model.proofs.Elements.{each, each_filter, each_from_all, each_map, each_split}
use Rattle.desk_model.proofs.Kept.{found_each, kept_each}
use Rattle.desk_findings.specs.Mass.{mass}
use Rattle.desk_findings.specs.Tonnage.{shipments_in}
use Rattle.desk_findings.specs.Totals.{too_heavy_year, year_mass}
use Rattle.desk_findings.proofs.Groups.{shipments_together}
use Rattle.desk_history.specs.Sound.{IsConsistent}
use Rattle.desk_history.proofs.SoundClauses.{forms_of}
use Rattle.desk_history.proofs.NamesKept.{names_of}
use Rattle.desk_totals.specs.Fit.{fit, fit_with}
use Rattle.desk_totals.proofs.Fits.{fit-above, fit-below, fit_with-fits}
use Rattle.desk_tables.proofs.Finds.{find_in_second}

-- a number that doesn't fit is at least the bound
over_of_none : (bound n : ℕ) → is_some (if nat_lt n bound then Some n else None) ≡ false → nat_le bound n ≡ true
over_of_none bound n e =
    elim (cases_lt n bound) [
      | inl below ↦ absurd (false≢true (sym e ∙ ap is_some (fit-below bound n below)))
      | inr above ↦ le-leb bound n above
    ]

-- a product that doesn't fit makes no sum that does
over_with : (bound a u m : ℕ) → (m * u < bound → ⊥) → None ≡ (if nat_lt (a + u * m) bound then Some (a + u * m) else None)
over_with bound a u m over =
    elim (cases_lt (m * u) bound) [
      | inl below ↦ absurd (over below)
      | inr above ↦ sym (fit-above bound (a + u * m) (grind (arith, above)))
    ]

pub sum_over : (a u m : ℕ) → (m * u < 2 ^ 128 → ⊥) → None ≡ fit (a + u * m)
sum_over a u m over = over_with (2 ^ 128) a u m over

-- an element at a place is one of all
pub at_each : {X : Type 0} (P : X → Type 0) (xs : List X) (i : ℕ) (d : X) → AllByRecursion P xs → i < length xs → P (get_or xs i d)
at_each P [] i d a l = absurd (omega (arith, l))
at_each P (x ∷ xs) zero d a l = a.0
at_each P (x ∷ xs) (suc i) d a l = at_each P xs i d a.1 (omega (arith, l))

-- the mass that stands at the place of a part is that of its code
pub mass_at : (f : List ℕ → Option ℕ) (parts : List PartRow) (code : List ℕ) (place : ℕ) (e : Option ℕ) → StandsAt (λ row. row.code) code_cmp code parts place → get_or (map (λ part. f part.code) parts) place e ≡ f code
mass_at f [] code place e at = absurd (omega (arith, at.within))
mass_at f (first ∷ rest) code place e at =
    let parts : List PartRow = first ∷ rest in
    let found = found_each (λ row. row.code) (λ row. ⊤) code parts (get_or parts place first) (each (λ row. ⊤) (λ row. tt) parts) (at.found first) in
    get_or-map (λ part. f part.code) parts place first e at.within ∙ ap f found.1

-- each shipment of consistent tables is one of a part
pub products_are_parts : (t : Lists) → IsConsistent t → AllByRecursion (λ shipment. is_part t shipment.product ≡ true) t.shipments
products_are_parts t s =
    let names = names_of t s.names_kept in
    each_map (λ shipment. is_product t shipment.product ≡ true) (λ shipment. is_part t shipment.product ≡ true)
    (λ shipment e. kept_each (λ row. row.part) (λ code. is_part t code ≡ true) shipment.product t.products (each_from_all (λ product. is_part t product.part) t.products names.products) e)
    t.shipments (each_from_all (λ shipment. is_product t shipment.product) t.shipments names.shipments)

pub products_of_year : (t : Lists) → IsConsistent t → (year : ℕ) → AllByRecursion (λ shipment. is_part t shipment.product ≡ true) (shipments_in t year)
products_of_year t s year =
    each_map (λ shipment. (is_part t shipment.product ≡ true) × ((shipment.year == year) ≡ true)) (λ shipment. is_part t shipment.product ≡ true) (λ shipment e. e.0) (shipments_in t year)
    (each_filter (λ shipment. is_part t shipment.product ≡ true) (λ shipment. shipment.year == year) t.shipments (products_are_parts t s))

-- the sum with one shipment more
pub with_shipment : (f : ShipmentRow → ℕ) (units : ℕ) (mass : ℕ) (shipments : List ShipmentRow) (i : ℕ) (d : ShipmentRow) → i < length shipments → f (get_or shipments i d) ≡ units * mass → fit_with (fit (sum_by f (take i shipments))) units (fit mass) ≡ fit (sum_by f (take (i + 1) shipments))
with_shipment f units mass shipments i d l e =
    fit_with-fits (sum_by f (take i shipments)) units mass
    ∙ ap (λ n. fit (sum_by f (take i shipments) + n)) (sym e)
    ∙ ap fit (sym (sum_by_more f shipments i d l))

-- a shipment stands in the years of shipments
abbrev pub IsInYears : ShipmentRow → Type 0
IsInYears shipment = (FIRST_SHIPMENT_YEAR ≤ shipment.year) × (shipment.year ≤ LAST_SHIPMENT_YEAR)

in_years : (shipment : ShipmentRow) → is_shipment_row shipment ≡ true → IsInYears shipment
in_years shipment h =
    let outer = and_parts (is_year shipment.year && is_code shipment.product) (are_units shipment.units) h in
    let year = and_parts (is_year shipment.year) (is_code shipment.product) outer.0 in
    let ends = and_parts (nat_le FIRST_SHIPMENT_YEAR shipment.year) (nat_le shipment.year LAST_SHIPMENT_YEAR) year.0 in
    (leb-true FIRST_SHIPMENT_YEAR shipment.year ends.0, leb-true shipment.year LAST_SHIPMENT_YEAR ends.1)

all_in_years : (t : Lists) → IsConsistent t → AllByRecursion IsInYears t.shipments
all_in_years t s =
    each_map (λ shipment. is_shipment_row shipment ≡ true) IsInYears in_years t.shipments
    (each_from_all is_shipment_row t.shipments (forms_of t s.in_form).shipments)

less_of : (a b : ℕ) → nat_cmp a b ≡ Less → a < b
less_of a b e = subst (λ o. MatchOrdering o (a < b) (a ≡ b) (b < a)) e (ranks a b)

equal_of : (a b : ℕ) → nat_cmp a b ≡ Equal → a ≡ b
equal_of a b e = subst (λ o. MatchOrdering o (a < b) (a ≡ b) (b < a)) e (ranks a b)

module _ (heavy : ℕ → Bool) (first : ℕ) where
  -- none of the years before this one is heavy
  abbrev NoneBefore : ℕ → Type 0
  NoneBefore year = (y : ℕ) → first ≤ y → y < year → heavy y ≡ false

  -- no shipment of years before this one is of a heavy year
  none_of : (year : ℕ) (shipments : List ShipmentRow) → NoneBefore year → AllByRecursion (λ shipment. first ≤ shipment.year) shipments → AllByRecursion (λ shipment. shipment.year < year) shipments → find (λ shipment. heavy shipment.year) shipments ≡ None
  none_of year [] light from before = refl
  none_of year (shipment ∷ shipments) light from before =
      rw (light shipment.year from.0 before.0) (none_of year shipments light from.1 before.1)

  -- in a run of one heavy year, and what stands behind it, the first heavy year is that one
  first_of_run : (year : ℕ) (run behind : List ShipmentRow) → heavy year ≡ true → AllByRecursion (λ shipment. nat_cmp shipment.year year ≡ Equal) run → (run ≡ [] → ⊥) → option_map (λ shipment. shipment.year) (find (λ shipment. heavy shipment.year) (run ++ behind)) ≡ Some year
  first_of_run year [] behind is equal some = absurd (some refl)
  first_of_run year (shipment ∷ run) behind is equal some =
      let same = equal_of shipment.year year equal.0 in
      let here : heavy shipment.year ≡ true = ap heavy same ∙ is in
      rw here (ap Some same)

  least_of_run : (year : ℕ) (shipments run : List ShipmentRow) → NoneBefore year → AllByRecursion (λ shipment. first ≤ shipment.year) shipments → heavy year ≡ true → IsOneRun (λ shipment. shipment.year) nat_cmp year shipments run → (run ≡ [] → ⊥) → option_map (λ shipment. shipment.year) (find (λ shipment. heavy shipment.year) shipments) ≡ Some year
  least_of_run year shipments run light from is one some =
      let parts : shipments ≡ one.before ++ (run ++ one.behind) = one.parts ∙ append_assoc one.before run one.behind in
      let front = each_split (λ shipment. first ≤ shipment.year) one.before (run ++ one.behind) (subst (AllByRecursion (λ shipment. first ≤ shipment.year)) parts from) in
      let lesser = each_map (λ shipment. nat_cmp shipment.year year ≡ Less) (λ shipment. shipment.year < year) (λ shipment e. less_of shipment.year year e) one.before one.lesser in
      let none = none_of year one.before light front.0 lesser in
      ap (λ rows. option_map (λ shipment. shipment.year) (find (λ shipment. heavy shipment.year) rows)) parts
      ∙ ap (option_map (λ shipment. shipment.year)) (find_in_second (λ shipment. heavy shipment.year) one.before (run ++ one.behind) none)
      ∙ first_of_run year run one.behind is one.equal some

-- a sum of at least so much, over no shipments, there isn't
some_in_run : (bound : ℕ) (f : ShipmentRow → ℕ) (run : List ShipmentRow) → 0 < bound → nat_le bound (sum_by f run) ≡ true → run ≡ [] → ⊥
some_in_run bound f run pos over e =
    let none : nat_le bound 0 ≡ true = subst (λ rows. nat_le bound (sum_by f rows) ≡ true) e over in
    absurd (omega (arith, pos, leb-true bound 0 none))

-- the years before this one that a shipment may name aren't too heavy
abbrev pub AreLightBefore : Lists → ℕ → Type 0
AreLightBefore t year = (y : ℕ) → FIRST_SHIPMENT_YEAR ≤ y → y < year → nat_le (2 ^ 128) (year_mass t y) ≡ false

pub least_heavy : (t : Lists) (year : ℕ) → IsConsistent t → AreLightBefore t year → is_some (fit (year_mass t year)) ≡ false → Some year ≡ too_heavy_year t
unfolding too_heavy_year
least_heavy t year s light none =
    let heavy = over_of_none (2 ^ 128) (year_mass t year) none in
    let some = some_in_run (2 ^ 128) (λ shipment. shipment.units * mass t shipment.product) (shipments_in t year) (omega arith) heavy in
    let from = each_map IsInYears (λ shipment. FIRST_SHIPMENT_YEAR ≤ shipment.year) (λ shipment e. e.0) t.shipments (all_in_years t s) in
    sym (least_of_run (λ y. nat_le (2 ^ 128) (year_mass t y)) FIRST_SHIPMENT_YEAR year t.shipments (shipments_in t year) light from heavy (shipments_together t s.ordered year) some)

pub none_heavy : (t : Lists) (year : ℕ) → IsConsistent t → AreLightBefore t year → LAST_SHIPMENT_YEAR < year → None ≡ too_heavy_year t
unfolding too_heavy_year
none_heavy t year s light last =
    let all = all_in_years t s in
    let from = each_map IsInYears (λ shipment. FIRST_SHIPMENT_YEAR ≤ shipment.year) (λ shipment e. e.0) t.shipments all in
    let before = each_map IsInYears (λ shipment. shipment.year < year) (λ shipment e. omega (arith, e.1, last)) t.shipments all in
    ap (option_map (λ shipment. shipment.year)) (sym (none_of (λ y. nat_le (2 ^ 128) (year_mass t y)) FIRST_SHIPMENT_YEAR year t.shipments light from before))

-- and so it is in a list of all parts' masses
pub mass_of : (t : Lists) (masses : List (Option ℕ)) (code : List ℕ) (place : ℕ) (parts : List PartRow) → parts ≡ t.parts → masses ≡ map (λ part. fit (mass t part.code)) t.parts → StandsAt (λ row. row.code) code_cmp code parts place → get_or masses place None ≡ fit (mass t code)
mass_of t masses code place parts same are at =
    ap (λ list. get_or list place None) (are ∙ ap (map (λ part. fit (mass t part.code))) (sym same))
    ∙ mass_at (λ code. fit (mass t code)) parts code place None at
