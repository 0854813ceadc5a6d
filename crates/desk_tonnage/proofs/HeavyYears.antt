-- The least year that weighs too much, found in one pass over the entries in their order.
use Rattle.std.proofs.Common.{◌≡◌, ℕ, ◌+◌, ◌*◌, ◌^◌, ◌<◌, ◌≤◌, true, false, cond, List, [], ◌∷◌, find, map, Option, Some, None, refl, sym, ap, ◌∙◌, subst, inl, inr, Ordering, Less, arith}
use Rattle.std.specs.Prelude.{◌==◌, nat_le, nat_lt, option_map, if◌then◌else◌}
use Rattle.std.specs.List.{AllByRecursion}
use Rattle.std.specs.Option.{option_map_or}
use Rattle.std.specs.Ordering.{nat_cmp, ordering_then}
use Rattle.std.proofs.lemmas.Bool.{cases_eq, cases_lt, cond-false, cond-true, eq-eqb, eqb-true, le-leb, le-ltb, lt-leb, lt-ltb, ne_eqb}
use Rattle.std.proofs.lemmas.Bool.Decides.{nat_tests}
use Rattle.desk_text.specs.Code.{code_cmp}
use Rattle.desk_rows.specs.Rows.{IsByKey}
use Rattle.desk_rows.proofs.Order.{first_above, rest_by_key}
use Rattle.desk_tonnage.specs.declared.entry.Entry.{Entry}
use Rattle.desk_tonnage.specs.Entries.{entry_key, entry_key_cmp}
use Rattle.desk_tonnage.specs.declared.product_mass.ProductMass.{ProductMass}
use Rattle.desk_tonnage.specs.declared.sums.YearSum.{YearSum}
use Rattle.desk_tonnage.specs.Masses.{mass_after, with_mass, with_masses}
use Rattle.desk_tonnage.specs.Years.{too_heavy_entry_year, entries_mass_in}
use Rattle.desk_tonnage.proofs.Keys.{entry_key_cmp_total}
use Rattle.desk_tonnage.proofs.Weights.{weight_in, weight_same, year_mass-cons}

-- the sum of a year with one more entry, where another year begins at 0
abbrev pub sum_with : ℕ → ℕ → Entry → ℕ
sum_with year sum entry = (if year == entry.year then sum else 0) + entry.units * entry.mass

-- the first year that becomes too heavy, from the sum so far of a year
abbrev pub heavy_from : ℕ → ℕ → List Entry → Option ℕ
heavy_from year sum [] = None
heavy_from year sum (entry ∷ entries) =
    if nat_lt (sum_with year sum entry) (2 ^ 128) then heavy_from entry.year (sum_with year sum entry) entries else Some entry.year

-- no entry is of an earlier year
abbrev pub FromYear : ℕ → List Entry → Type 0
FromYear year entries = AllByRecursion (λ entry. year ≤ entry.year) entries

-- the years don't fall
abbrev pub YearsRise : List Entry → Type 0
YearsRise [] = Unit {0}
YearsRise (entry ∷ entries) = FromYear entry.year entries × YearsRise entries

-- a year before all entries weighs nothing
no_mass : (year : ℕ) (entries : List Entry) → AllByRecursion (λ entry. year < entry.year) entries → entries_mass_in year entries ≡ 0
no_mass year [] a = refl
no_mass year (entry ∷ entries) a =
    let nothing : weight_in year entry ≡ 0 = rw (ne_eqb entry.year year (λ e. absurd (omega (arith, a.0, e)))) refl in
    omega (arith, year_mass-cons year entry entries, nothing, no_mass year entries a.1)

later_years : (year other : ℕ) (entries : List Entry) → year < other → FromYear other entries → AllByRecursion (λ entry. year < entry.year) entries
later_years year other [] h a = tt
later_years year other (entry ∷ entries) h a = (omega (arith, a.0), later_years year other entries h a.1)

-- a first entry whose year isn't too heavy is no answer, and changes none
skip : (entry : Entry) (all rest : List Entry) → entries_mass_in entry.year (entry ∷ all) < 2 ^ 128 → find (λ later. nat_le (2 ^ 128) (entries_mass_in later.year (entry ∷ all))) rest ≡ find (λ later. nat_le (2 ^ 128) (entries_mass_in later.year all)) rest
skip entry all [] light = refl
skip entry all (later ∷ rest) light =
    let same : nat_le (2 ^ 128) (entries_mass_in later.year (entry ∷ all)) ≡ nat_le (2 ^ 128) (entries_mass_in later.year all) = same_test in
    ap (λ b. cond b (Some later) (find (λ l. nat_le (2 ^ 128) (entries_mass_in l.year (entry ∷ all))) rest)) same ∙ ap (λ o. cond (nat_le (2 ^ 128) (entries_mass_in later.year all)) (Some later) o) (skip entry all rest light)
  where
    same_test : nat_le (2 ^ 128) (entries_mass_in later.year (entry ∷ all)) ≡ nat_le (2 ^ 128) (entries_mass_in later.year all)
    same_test =
        elim (entry.year == later.year) as (λ b. (entry.year == later.year) ≡ b → nat_le (2 ^ 128) (entries_mass_in later.year (entry ∷ all)) ≡ nat_le (2 ^ 128) (entries_mass_in later.year all)) [
          | true ↦ λ e.
              let light_here : entries_mass_in later.year (entry ∷ all) < 2 ^ 128 = subst (λ y. entries_mass_in y (entry ∷ all) < 2 ^ 128) (eqb-true entry.year later.year e) light in
              let less : entries_mass_in later.year all < 2 ^ 128 = omega (arith, year_mass-cons later.year entry all, light_here) in
              lt-leb (2 ^ 128) (entries_mass_in later.year (entry ∷ all)) light_here ∙ sym (lt-leb (2 ^ 128) (entries_mass_in later.year all) less)
          | false ↦ λ e.
              let nothing : weight_in later.year entry ≡ 0 = rw e refl in
              let sums : entries_mass_in later.year (entry ∷ all) ≡ entries_mass_in later.year all = omega (arith, year_mass-cons later.year entry all, nothing) in
              ap (λ n. nat_le (2 ^ 128) n) sums
        ] refl

pub skip_light : (entry : Entry) (entries : List Entry) → entries_mass_in entry.year (entry ∷ entries) < 2 ^ 128 → too_heavy_entry_year (entry ∷ entries) ≡ too_heavy_entry_year entries
skip_light entry entries light =
    ap (λ b. option_map (λ e. e.year) (cond b (Some entry) (find (λ later. nat_le (2 ^ 128) (entries_mass_in later.year (entry ∷ entries))) entries))) (lt-leb (2 ^ 128) (entries_mass_in entry.year (entry ∷ entries)) light)
    ∙ ap (λ o. option_map (λ e. e.year) o) (skip entry entries entries light)

stop_heavy : (entry : Entry) (entries : List Entry) → 2 ^ 128 ≤ entries_mass_in entry.year (entry ∷ entries) → too_heavy_entry_year (entry ∷ entries) ≡ Some entry.year
stop_heavy entry entries heavy = rw (le-leb (2 ^ 128) (entries_mass_in entry.year (entry ∷ entries)) heavy) refl

-- the pass gives the year of the sum where that becomes too heavy, or else the least that is
abbrev from_sum : ℕ → ℕ → List Entry → Option ℕ
from_sum year sum entries = if nat_lt (sum + entries_mass_in year entries) (2 ^ 128) then too_heavy_entry_year entries else Some year

from_light : (year sum : ℕ) (entries : List Entry) → sum + entries_mass_in year entries < 2 ^ 128 → from_sum year sum entries ≡ too_heavy_entry_year entries
from_light year sum entries h = cond-true (nat_lt (sum + entries_mass_in year entries) (2 ^ 128)) (too_heavy_entry_year entries) (Some year) (lt-ltb (sum + entries_mass_in year entries) (2 ^ 128) h)

from_heavy : (year sum : ℕ) (entries : List Entry) → 2 ^ 128 ≤ sum + entries_mass_in year entries → from_sum year sum entries ≡ Some year
from_heavy year sum entries h = cond-false (nat_lt (sum + entries_mass_in year entries) (2 ^ 128)) (too_heavy_entry_year entries) (Some year) (le-ltb (sum + entries_mass_in year entries) (2 ^ 128) h)

go_on : (year sum : ℕ) (entry : Entry) (entries : List Entry) → sum_with year sum entry < 2 ^ 128 → heavy_from year sum (entry ∷ entries) ≡ heavy_from entry.year (sum_with year sum entry) entries
go_on year sum entry entries h = cond-true (nat_lt (sum_with year sum entry) (2 ^ 128)) (heavy_from entry.year (sum_with year sum entry) entries) (Some entry.year) (lt-ltb (sum_with year sum entry) (2 ^ 128) h)

stop : (year sum : ℕ) (entry : Entry) (entries : List Entry) → 2 ^ 128 ≤ sum_with year sum entry → heavy_from year sum (entry ∷ entries) ≡ Some entry.year
stop year sum entry entries h = cond-false (nat_lt (sum_with year sum entry) (2 ^ 128)) (heavy_from entry.year (sum_with year sum entry) entries) (Some entry.year) (le-ltb (sum_with year sum entry) (2 ^ 128) h)

-- one more entry of the same year
module _ (year sum : ℕ) (entry : Entry) (entries : List Entry) (same : year ≡ entry.year) where
  whole : sum + entries_mass_in year (entry ∷ entries) ≡ sum_with year sum entry + entries_mass_in entry.year entries
  whole =
      let with_it : sum_with year sum entry ≡ sum + entry.units * entry.mass = rw (eq-eqb year entry.year same) refl in
      omega (arith, with_it, year_mass-cons year entry entries, weight_same year entry (sym same), ap (λ y. entries_mass_in y entries) same)

  own : entries_mass_in entry.year (entry ∷ entries) ≤ sum + entries_mass_in year (entry ∷ entries)
  own = omega (arith, ap (λ y. entries_mass_in y (entry ∷ entries)) same)

  same_year : (sum_with year sum entry < 2 ^ 128 → heavy_from entry.year (sum_with year sum entry) entries ≡ from_sum entry.year (sum_with year sum entry) entries) → heavy_from year sum (entry ∷ entries) ≡ from_sum year sum (entry ∷ entries)
  same_year ih =
      elim (cases_lt (sum_with year sum entry) (2 ^ 128)) [
        | inl light ↦
            elim (cases_lt (sum + entries_mass_in year (entry ∷ entries)) (2 ^ 128)) [
              | inl fits ↦ go_on year sum entry entries light ∙ ih light ∙ from_light entry.year (sum_with year sum entry) entries (omega (arith, whole, fits)) ∙ sym (skip_light entry entries (omega (arith, own, fits))) ∙ sym (from_light year sum (entry ∷ entries) fits)
              | inr over ↦ go_on year sum entry entries light ∙ ih light ∙ from_heavy entry.year (sum_with year sum entry) entries (omega (arith, whole, over)) ∙ ap (λ y. Some y) (sym same) ∙ sym (from_heavy year sum (entry ∷ entries) over)
            ]
        | inr heavy ↦ stop year sum entry entries heavy ∙ ap (λ y. Some y) (sym same) ∙ sym (from_heavy year sum (entry ∷ entries) (omega (arith, whole, heavy)))
      ]

-- a first entry of another year
module _ (year sum : ℕ) (entry : Entry) (entries : List Entry) (earlier : year < entry.year) (later : FromYear entry.year entries) (light_so_far : sum < 2 ^ 128) where
  begins : sum_with year sum entry + entries_mass_in entry.year entries ≡ entries_mass_in entry.year (entry ∷ entries)
  begins =
      let alone : sum_with year sum entry ≡ 0 + entry.units * entry.mass = rw (ne_eqb year entry.year (λ e. absurd (omega (arith, earlier, e)))) refl in
      omega (arith, alone, year_mass-cons entry.year entry entries, weight_same entry.year entry refl)

  before : from_sum year sum (entry ∷ entries) ≡ too_heavy_entry_year (entry ∷ entries)
  before = from_light year sum (entry ∷ entries) (omega (arith, no_mass year (entry ∷ entries) (earlier, later_years year entry.year entries earlier later), light_so_far))

  other_year : (sum_with year sum entry < 2 ^ 128 → heavy_from entry.year (sum_with year sum entry) entries ≡ from_sum entry.year (sum_with year sum entry) entries) → heavy_from year sum (entry ∷ entries) ≡ from_sum year sum (entry ∷ entries)
  other_year ih =
      elim (cases_lt (sum_with year sum entry) (2 ^ 128)) [
        | inl light ↦
            elim (cases_lt (entries_mass_in entry.year (entry ∷ entries)) (2 ^ 128)) [
              | inl fits ↦ go_on year sum entry entries light ∙ ih light ∙ from_light entry.year (sum_with year sum entry) entries (omega (arith, begins, fits)) ∙ sym (skip_light entry entries fits) ∙ sym before
              | inr over ↦ go_on year sum entry entries light ∙ ih light ∙ from_heavy entry.year (sum_with year sum entry) entries (omega (arith, begins, over)) ∙ sym (stop_heavy entry entries over) ∙ sym before
            ]
        | inr heavy ↦ stop year sum entry entries heavy ∙ sym (stop_heavy entry entries (omega (arith, begins, heavy))) ∙ sym before
      ]

heavy_from-is : (year sum : ℕ) (entries : List Entry) → FromYear year entries → YearsRise entries → sum < 2 ^ 128 → heavy_from year sum entries ≡ from_sum year sum entries
heavy_from-is year sum [] from rise light = sym (from_light year sum [] (omega (arith, light)))
heavy_from-is year sum (entry ∷ entries) from rise light =
    let rest : sum_with year sum entry < 2 ^ 128 → heavy_from entry.year (sum_with year sum entry) entries ≡ from_sum entry.year (sum_with year sum entry) entries = λ fits. heavy_from-is entry.year (sum_with year sum entry) entries rise.0 rise.1 fits in
    elim (cases_eq year entry.year) [
      | inl same ↦ same_year year sum entry entries same rest
      | inr other ↦ other_year year sum entry entries (omega (arith, from.0, other)) rise.0 light rest
    ]

from_start : (entries : List Entry) → FromYear 0 entries
from_start [] = tt
from_start (entry ∷ entries) = (omega arith, from_start entries)

-- entries by key are in the order of their years
year_first : (first second : ℕ) (o : Ordering) → ordering_then (nat_cmp first second) o ≡ Less → first ≤ second
year_first first second o e = grind (arith, nat_tests)

above_from : (year : ℕ) (product : List ℕ) (entries : List Entry) → AllByRecursion (λ key. entry_key_cmp (year, product) key ≡ Less) (map entry_key entries) → FromYear year entries
above_from year product [] a = tt
above_from year product (entry ∷ entries) a = (year_first year entry.year (code_cmp product entry.product) a.0, above_from year product entries a.1)

pub years_rise : (entries : List Entry) → IsByKey entry_key entry_key_cmp entries → YearsRise entries
years_rise [] h = tt
years_rise (entry ∷ entries) h = (
  above_from entry.year entry.product entries (first_above entry_key entry_key_cmp entry_key_cmp_total entry entries h),
  years_rise entries (rest_by_key entry_key entry_key_cmp entry_key_cmp_total entry entries h),
)

year_0 : (entries : List Entry) → YearsRise entries → 2 ^ 128 ≤ 0 + entries_mass_in 0 entries → too_heavy_entry_year entries ≡ Some 0
year_0 [] rise heavy = absurd (omega (arith, heavy))
year_0 (entry ∷ entries) rise heavy =
    elim (cases_eq 0 entry.year) [
      | inl same ↦ stop_heavy entry entries (omega (arith, heavy, ap (λ y. entries_mass_in y (entry ∷ entries)) same)) ∙ ap (λ y. Some y) (sym same)
      | inr other ↦
          let later : 0 < entry.year = omega (arith, other) in
          absurd (omega (arith, heavy, no_mass 0 (entry ∷ entries) (later, later_years 0 entry.year entries later rise.0)))
    ]

-- one pass finds the least year that weighs too much
pub heavy_from_start : (entries : List Entry) → IsByKey entry_key entry_key_cmp entries → heavy_from 0 0 entries ≡ too_heavy_entry_year entries
heavy_from_start entries h =
    heavy_from-is 0 0 entries (from_start entries) (years_rise entries h) (omega arith) ∙ elim (cases_lt (0 + entries_mass_in 0 entries) (2 ^ 128)) [
      | inl light ↦ from_light 0 0 entries light
      | inr heavy ↦ from_heavy 0 0 entries heavy ∙ sym (year_0 entries (years_rise entries h) heavy)
    ]

-- one step of the pass, with the new mass of an entry's product
pub step_over : (year sum mass : ℕ) (entry : Entry) (entries : List Entry) (masses : List ProductMass) (next : Option YearSum) → mass ≡ mass_after masses entry
    → next ≡ (if nat_lt ((if year == entry.year then sum else 0) + entry.units * mass) (2 ^ 128) then Some (record { year = entry.year; mass = (if year == entry.year then sum else 0) + entry.units * mass }) else None)
    → heavy_from year sum (with_masses masses (entry ∷ entries)) ≡ option_map_or (λ more. heavy_from more.year more.mass (with_masses masses entries)) next (Some entry.year)
step_over year sum mass entry entries masses next same is =
    rw (is, same)
    (elim (nat_lt (sum_with year sum (with_mass masses entry)) (2 ^ 128)) as (λ b. (if b then heavy_from entry.year (sum_with year sum (with_mass masses entry)) (with_masses masses entries) else Some entry.year) ≡ option_map_or {T = YearSum} (λ more. heavy_from more.year more.mass (with_masses masses entries)) (if b then Some (record { year = entry.year; mass = sum_with year sum (with_mass masses entry) }) else None) (Some entry.year)) [ true ↦ refl | false ↦ refl ])
