-- What is kept of the years stays so where an entry is set, lowered or taken out, and where products have new masses.
use Rattle.std.proofs.Common.{◌≡◌, ℕ, ◌-◌, ◌*◌, ◌^◌, ◌<◌, ◌≤◌, Bool, true, false, cond, List, [], ◌∷◌, map, find, Option, Some, None, is_eq, refl, sym, ap, ◌∙◌, subst, ◌⊎◌, inl, inr, arith}
use Rattle.std.specs.Prelude.{◌==◌, nat_le, option_map}
use Rattle.std.specs.List.{AllByRecursion}
use Rattle.std.specs.List.Sorted.{IsStrictlySortedBy}
use Rattle.std.specs.Option.{option_map_or}
use Rattle.std.proofs.lemmas.Bool.{eqb-false, eqb-true, leb-false}
use Rattle.desk_rows.specs.Rows.{IsByKey, without_row}
use Rattle.desk_rows.proofs.Edits.{IsByKey-with_row, IsByKey-without_row}
use Rattle.desk_rows.proofs.Lookups.{each_with_row, each_without_row}
use Rattle.desk_rows.proofs.Order.{none_by_key}
use Rattle.desk_tonnage.specs.declared.entry.Entry.{Entry}
use Rattle.desk_tonnage.specs.declared.product_mass.ProductMass.{ProductMass}
use Rattle.desk_tonnage.specs.Entries.{entry_key, entry_key_cmp, entry_of, entry_units}
use Rattle.desk_tonnage.specs.Edits.{lowered, with_entry, without_entry_units}
use Rattle.desk_tonnage.specs.Kept.{IsMassPlan}
use Rattle.desk_tonnage.specs.Masses.{with_masses}
use Rattle.desk_tonnage.specs.Years.{IsYearly, too_heavy_entry_year, entries_mass_in}
use Rattle.desk_tonnage.proofs.Keys.{entry_key_cmp_total, found_key}
use Rattle.desk_tonnage.proofs.Weights.{weight_in, year_mass-cons, year_mass-put, year_mass-without}

-- the units of an entry are in range
abbrev pub HasUnits : Entry → Type 0
HasUnits entry = (1 ≤ entry.units) × (entry.units ≤ 1000000000000)

pub none_kept : IsYearly []
none_kept = record { by_key = none_by_key entry_key entry_key_cmp entry_key_cmp_total; units = tt; masses = λ year. omega arith }

-- another year weighs no more than before
other_year : (year : ℕ) (new : Entry) (entries : List Entry) → IsByKey entry_key entry_key_cmp entries → (new.year == year) ≡ false → entries_mass_in year (with_entry new entries) ≤ entries_mass_in year entries
other_year year new entries h other =
    let nothing : weight_in year new ≡ 0 = rw other refl in
    omega (arith, year_mass-put year new entries h, nothing)

-- with an entry set
pub with_entry-kept : (new : Entry) (entries : List Entry) → IsYearly entries → HasUnits new → entries_mass_in new.year (with_entry new entries) < 2 ^ 128 → IsYearly (with_entry new entries)
with_entry-kept new entries h units fits = record {
  by_key = IsByKey-with_row entry_key entry_key_cmp entry_key_cmp_total new entries h.by_key;
  units = each_with_row entry_key entry_key_cmp HasUnits new entries units h.units;
  masses = λ year. elim (new.year == year) as (λ b. (new.year == year) ≡ b → entries_mass_in year (with_entry new entries) < 2 ^ 128) [
    | true ↦ λ same. subst (λ y. entries_mass_in y (with_entry new entries) < 2 ^ 128) (eqb-true new.year year same) fits
    | false ↦ λ other. omega (arith, other_year year new entries h.by_key other, h.masses year)
  ] refl;
}

-- without an entry
pub without_entry-kept : (key : ℕ × List ℕ) (entries : List Entry) → IsYearly entries → IsYearly (without_row entry_key entry_key_cmp key entries)
without_entry-kept key entries h = record {
  by_key = IsByKey-without_row entry_key entry_key_cmp entry_key_cmp_total key entries h.by_key;
  units = each_without_row entry_key entry_key_cmp HasUnits key entries h.units;
  masses = λ year. omega (arith, year_mass-without year key entries, h.masses year);
}

fewer : (a b m : ℕ) → a ≤ b → a * m ≤ b * m
fewer a b m h = grind arith

weight_lowered : (b : Bool) (units less mass : ℕ) → cond b ((units - less) * mass) 0 ≤ cond b (units * mass) 0
weight_lowered true units less mass = fewer (units - less) units mass (omega arith)
weight_lowered false units less mass = omega arith

none_some : (x : Entry) {G : Type 0} → None ≡ Some x → G
none_some x e = cc

some_inside : (x y : Entry) → Some x ≡ Some y → x ≡ y
some_inside x y e = cc

-- what holds of each entry holds of one that is found
found_each : (P : Entry → Type 0) (year : ℕ) (product : List ℕ) (entries : List Entry) (entry : Entry) → AllByRecursion P entries → entry_of year product entries ≡ Some entry → P entry
found_each P year product [] entry a e = none_some entry e
found_each P year product (first ∷ entries) entry a e =
    elim (is_eq (entry_key_cmp (entry_key first) (year, product))) as (λ b. cond b (Some first) (entry_of year product entries) ≡ Some entry → P entry) [
      | true ↦ λ here. subst P (some_inside first entry here) a.0
      | false ↦ λ later. found_each P year product entries entry a.1 later
    ] e

-- with an entry lowered
set_lower : (entry : Entry) (units : ℕ) (entries : List Entry) → entry_of entry.year entry.product entries ≡ Some entry → (entry.units == units) ≡ false → units ≤ entry.units → IsYearly entries → IsYearly (with_entry (record entry { units = entry.units - units }) entries)
set_lower entry units entries found other enough h =
    let new : Entry = record entry { units = entry.units - units } in
    let kept : HasUnits entry = found_each HasUnits entry.year entry.product entries entry h.units found in
    let put = year_mass-put entry.year new entries h.by_key in
    let old : option_map_or (weight_in entry.year) (entry_of entry.year entry.product entries) 0 ≡ weight_in entry.year entry = ap (λ o. option_map_or (weight_in entry.year) o 0) found in
    let less = weight_lowered (entry.year == entry.year) entry.units units entry.mass in
    let apart = eqb-false entry.units units other in
    with_entry-kept new entries h (omega (arith, kept.0, apart), omega (arith, kept.1)) (omega (arith, put, old, less, h.masses entry.year))

lowered-kept : (year : ℕ) (product : List ℕ) (units : ℕ) (entries : List Entry) (o : Option Entry) → entry_of year product entries ≡ o → units ≤ option_map_or (λ entry. entry.units) o 0 → IsYearly entries → IsYearly (lowered o units entries)
lowered-kept year product units entries None e enough h = h
lowered-kept year product units entries (Some entry) e enough h =
    elim (entry.units == units) as (λ b. (entry.units == units) ≡ b → IsYearly (cond b (without_row entry_key entry_key_cmp (entry_key entry) entries) (with_entry (record entry { units = entry.units - units }) entries))) [
      | true ↦ λ all. without_entry-kept (entry_key entry) entries h
      | false ↦ λ other.
          let key = found_key year product entries entry e in
          let found : entry_of entry.year entry.product entries ≡ Some entry = ap (λ y. entry_of y entry.product entries) key.0 ∙ ap (λ p. entry_of year p entries) key.1 ∙ e in
          set_lower entry units entries found other enough h
    ] refl

-- with so many units fewer
pub without_units-kept : (year : ℕ) (product : List ℕ) (units : ℕ) (entries : List Entry) → units ≤ entry_units year product entries → IsYearly entries → IsYearly (without_entry_units year product units entries)
without_units-kept year product units entries enough h = lowered-kept year product units entries (entry_of year product entries) refl enough h

-- new masses change no key and no number of units
keys_stay : (masses : List ProductMass) (entries : List Entry) → map entry_key (with_masses masses entries) ≡ map entry_key entries
keys_stay masses [] = refl
keys_stay masses (entry ∷ entries) = ap (λ keys. entry_key entry ∷ keys) (keys_stay masses entries)

pub by_key_stays : (masses : List ProductMass) (entries : List Entry) → IsByKey entry_key entry_key_cmp entries → IsByKey entry_key entry_key_cmp (with_masses masses entries)
by_key_stays masses entries h = subst (IsStrictlySortedBy entry_key_cmp) (sym (keys_stay masses entries)) h

units_stay : (masses : List ProductMass) (entries : List Entry) → AllByRecursion HasUnits entries → AllByRecursion HasUnits (with_masses masses entries)
units_stay masses [] a = tt
units_stay masses (entry ∷ entries) a = (a.0, units_stay masses entries a.1)

-- a year that has no entry weighs nothing, and one that has was looked at
looked_at : (year : ℕ) (all entries : List Entry) → find (λ entry. nat_le (2 ^ 128) (entries_mass_in entry.year all)) entries ≡ None → (entries_mass_in year entries ≡ 0) ⊎ (entries_mass_in year all < 2 ^ 128)
looked_at year all [] e = inl refl
looked_at year all (entry ∷ entries) e =
    elim (nat_le (2 ^ 128) (entries_mass_in entry.year all)) as (λ b. nat_le (2 ^ 128) (entries_mass_in entry.year all) ≡ b → cond b (Some entry) (find (λ later. nat_le (2 ^ 128) (entries_mass_in later.year all)) entries) ≡ None → (entries_mass_in year (entry ∷ entries) ≡ 0) ⊎ (entries_mass_in year all < 2 ^ 128)) [
      | true ↦ λ heavy none. none_some entry (sym none)
      | false ↦ λ light later. by_year light (looked_at year all entries later)
    ] refl e
  where
    by_year : nat_le (2 ^ 128) (entries_mass_in entry.year all) ≡ false → (entries_mass_in year entries ≡ 0) ⊎ (entries_mass_in year all < 2 ^ 128) → (entries_mass_in year (entry ∷ entries) ≡ 0) ⊎ (entries_mass_in year all < 2 ^ 128)
    by_year light (inr fits) = inr fits
    by_year light (inl nothing) =
        elim (entry.year == year) as (λ b. (entry.year == year) ≡ b → (entries_mass_in year (entry ∷ entries) ≡ 0) ⊎ (entries_mass_in year all < 2 ^ 128)) [
          | true ↦ λ same. inr (subst (λ y. entries_mass_in y all < 2 ^ 128) (eqb-true entry.year year same) (leb-false (2 ^ 128) (entries_mass_in entry.year all) light))
          | false ↦ λ other. let none : weight_in year entry ≡ 0 = rw other refl in inl (omega (arith, year_mass-cons year entry entries, none, nothing))
        ] refl

not_mapped : (o : Option Entry) → option_map (λ entry. entry.year) o ≡ None → o ≡ None
not_mapped None e = refl
not_mapped (Some entry) e = cc

pub none_heavy : (entries : List Entry) → too_heavy_entry_year entries ≡ None → (year : ℕ) → entries_mass_in year entries < 2 ^ 128
none_heavy entries e year =
    either (looked_at year entries entries (not_mapped (find (λ entry. nat_le (2 ^ 128) (entries_mass_in entry.year entries)) entries) e))
  where
    either : (entries_mass_in year entries ≡ 0) ⊎ (entries_mass_in year entries < 2 ^ 128) → entries_mass_in year entries < 2 ^ 128
    either (inl nothing) = omega (arith, nothing)
    either (inr fits) = fits

-- with new masses
pub with_masses-kept : (masses : List ProductMass) (entries : List Entry) → IsYearly entries → IsMassPlan entries masses → IsYearly (with_masses masses entries)
with_masses-kept masses entries h plan = record {
  by_key = by_key_stays masses entries h.by_key;
  units = units_stay masses entries h.units;
  masses = none_heavy (with_masses masses entries) plan;
}

-- no new masses change nothing
pub no_masses : (entries : List Entry) → with_masses [] entries ≡ entries
no_masses [] = refl
no_masses (entry ∷ entries) = ap (λ rest. entry ∷ rest) (no_masses entries)

-- entries of which no year is too heavy are yearly
pub all-kept : (entries : List Entry) → IsByKey entry_key entry_key_cmp entries → AllByRecursion HasUnits entries → too_heavy_entry_year entries ≡ None → IsYearly entries
all-kept entries by_key units light = record { by_key = by_key; units = units; masses = none_heavy entries light }
