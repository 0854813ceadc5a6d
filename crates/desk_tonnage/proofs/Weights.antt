-- What an entry weighs in a year, and the sums of years by it, after an entry is set or taken out.
use Rattle.std.proofs.Common.{◌≡◌, ℕ, ◌+◌, ◌*◌, ◌≤◌, cond, List, ◌∷◌, sum_by, Option, Some, None, refl, sym, ap, ◌∙◌, arith}
use Rattle.std.specs.Prelude.{◌==◌, IfSome}
use Rattle.std.specs.Option.{option_map_or}
use Rattle.std.proofs.Math.Nat.{add-mul}
use Rattle.std.proofs.lemmas.Bool.{eq-eqb}
use Rattle.std.proofs.lemmas.List.Sums.{sum_by-cons}
use Rattle.desk_rows.specs.Rows.{IsByKey, without_row}
use Rattle.desk_rows.proofs.Sums.{sum_by-filter, sum_by-put, sum_by-without_row-le}
use Rattle.desk_tonnage.specs.declared.entry.Entry.{Entry}
use Rattle.desk_tonnage.specs.Entries.{entry_key, entry_key_cmp, entry_of, entry_units}
use Rattle.desk_tonnage.specs.Edits.{HasMass, entry_with, with_entry, with_entry_units}
use Rattle.desk_tonnage.specs.Years.{entries_mass_in}
use Rattle.desk_tonnage.proofs.Keys.{entry_key_cmp_total, found_key}

-- what the units of an entry weigh in a year
abbrev pub weight_in : ℕ → Entry → ℕ
weight_in year entry = cond (entry.year == year) (entry.units * entry.mass) 0

pub year_mass-is : (year : ℕ) (entries : List Entry) → entries_mass_in year entries ≡ sum_by (weight_in year) entries
year_mass-is year entries = sum_by-filter (λ entry. entry.year == year) (λ entry. entry.units * entry.mass) entries

pub year_mass-cons : (year : ℕ) (entry : Entry) (entries : List Entry) → entries_mass_in year (entry ∷ entries) ≡ weight_in year entry + entries_mass_in year entries
year_mass-cons year entry entries =
    year_mass-is year (entry ∷ entries) ∙ sum_by-cons (weight_in year) entry entries ∙ ap (λ n. weight_in year entry + n) (sym (year_mass-is year entries))

pub weight_same : (year : ℕ) (entry : Entry) → entry.year ≡ year → weight_in year entry ≡ entry.units * entry.mass
weight_same year entry e = rw (eq-eqb entry.year year e) refl

-- a year's mass with an entry set, and what the entry in its place weighed
pub year_mass-put : (year : ℕ) (new : Entry) (entries : List Entry) → IsByKey entry_key entry_key_cmp entries → entries_mass_in year (with_entry new entries) + option_map_or (weight_in year) (entry_of new.year new.product entries) 0 ≡ weight_in year new + entries_mass_in year entries
year_mass-put year new entries h =
    let put = sum_by-put entry_key entry_key_cmp entry_key_cmp_total (weight_in year) new entries h in
    omega (arith, put, year_mass-is year (with_entry new entries), year_mass-is year entries)

-- a year is no heavier without an entry
pub year_mass-without : (year : ℕ) (key : ℕ × List ℕ) (entries : List Entry) → entries_mass_in year (without_row entry_key entry_key_cmp key entries) ≤ entries_mass_in year entries
year_mass-without year key entries =
    omega (arith, sum_by-without_row-le entry_key entry_key_cmp (weight_in year) key entries, year_mass-is year (without_row entry_key entry_key_cmp key entries), year_mass-is year entries)

-- what an entry of this mass weighs
kept_weight : (year : ℕ) (product : List ℕ) (mass : ℕ) (o : Option Entry) → ((entry : Entry) → o ≡ Some entry → entry.year ≡ year) → IfSome o (λ entry. entry.mass ≡ mass) → option_map_or (weight_in year) o 0 ≡ option_map_or (λ entry. entry.units) o 0 * mass
kept_weight year product mass None found same = omega arith
kept_weight year product mass (Some entry) found same = weight_same year entry (found entry refl) ∙ ap (λ n. entry.units * n) same

-- a year's mass with so many units more
pub year_mass-with_units : (year : ℕ) (product : List ℕ) (units mass : ℕ) (entries : List Entry) → IsByKey entry_key entry_key_cmp entries → HasMass year product mass entries → entries_mass_in year (with_entry_units year product units mass entries) ≡ entries_mass_in year entries + units * mass
year_mass-with_units year product units mass entries h same =
    let new = entry_with year product units mass entries in
    let kept = entry_units year product entries in
    let put = year_mass-put year new entries h in
    let old = kept_weight year product mass (entry_of year product entries) (λ entry e. (found_key year product entries entry e).0) same in
    let whole : weight_in year new ≡ (kept + units) * mass = weight_same year new refl in
    omega (arith, put, old, whole, add-mul kept units mass)
