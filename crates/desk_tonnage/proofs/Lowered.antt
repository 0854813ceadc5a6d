-- An entry that was found, lowered or taken out, and the answer to an addition.
use Rattle.std.proofs.Common.{◌≡◌, ℕ, ◌+◌, ◌-◌, ◌*◌, ◌^◌, ◌<◌, ◌≤◌, Bool, true, false, not, cond, List, [], ◌∷◌, map, get_or, set, zero, suc, take, drop, ◌++◌, length, Option, Some, None, Result, Ok, Err, MatchResult, refl, sym, ap, ◌∙◌, arith}
use Rattle.std.specs.Prelude.{◌==◌, nat_le, nat_lt}
use Rattle.std.specs.Result.{is_ok}
use Rattle.std.specs.Option.{SomeIff, is_some}
use Rattle.std.proofs.lemmas.Bool.{cond-false, cond-true, eq-eqb, false≢true, le-leb, le-ltb, lt-leb, ne_eqb}
use Rattle.desk_rows.specs.Rows.{row_of, without_row}
use Rattle.desk_rows.specs.Place.{StandsAt, StandsNowhere}
use Rattle.desk_tonnage.specs.declared.entry.Entry.{Entry}
use Rattle.desk_tonnage.specs.declared.fault.TonnageFault.TheVariants.{UnitsTooLarge, YearTooLarge}
use Rattle.desk_tonnage.specs.Entries.{entry_key, entry_key_cmp, entry_of, entry_units}
use Rattle.desk_tonnage.specs.Edits.{add_answer, lowered, with_entry, with_entry_units, without_entry_units}
use Rattle.desk_tonnage.specs.Years.{entries_mass_in}
use Rattle.desk_tonnage.proofs.Keys.{found_key}

module _ (year : ℕ) (product : List ℕ) (units : ℕ) (entries : List Entry) (entry : Entry) (found : entry_of year product entries ≡ Some entry) where
  kept_units : entry_units year product entries ≡ entry.units
  kept_units = rw found refl

  own_key : entry_key entry ≡ (year, product)
  own_key = let key = found_key year product entries entry found in rw (key.0, key.1) refl

  -- where all units are taken the entry goes out
  pub all_taken : units ≤ entry_units year product entries → entry.units - units ≡ 0 → without_entry_units year product units entries ≡ without_row entry_key entry_key_cmp (year, product) entries
  all_taken enough none =
      let same : entry.units ≡ units = omega (arith, kept_units) in
      ap (λ o. lowered o units entries) found
      ∙ cond-true (entry.units == units) (without_row entry_key entry_key_cmp (entry_key entry) entries) (with_entry (record entry { units = entry.units - units }) entries) (eq-eqb entry.units units same)
      ∙ ap (λ key. without_row entry_key entry_key_cmp key entries) own_key

  -- else it has fewer
  pub some_left : (entry.units - units ≡ 0 → ⊥) → without_entry_units year product units entries ≡ with_entry (record entry { units = entry.units - units }) entries
  some_left left =
      let other : entry.units ≡ units → ⊥ = λ same. left (omega (arith, same)) in
      ap (λ o. lowered o units entries) found
      ∙ cond-false (entry.units == units) (without_row entry_key entry_key_cmp (entry_key entry) entries) (with_entry (record entry { units = entry.units - units }) entries) (ne_eqb entry.units units other)

  pub lower_key : entry_key (record entry { units = entry.units - units }) ≡ (year, product)
  lower_key = own_key

some_entry : Entry
some_entry = record { year = 0; product = []; units = 0; mass = 0 }

-- a key that is found isn't absent
pub found_not_absent : (key : ℕ × List ℕ) (entries : List Entry) (place : Result ℕ ℕ) → MatchResult place (StandsAt entry_key entry_key_cmp key entries) (StandsNowhere entry_key entry_key_cmp key entries) → is_ok place ≡ true → row_of entry_key entry_key_cmp key entries ≡ None → ⊥
found_not_absent key entries (Ok at) h e absent = cc (h.found some_entry)
found_not_absent key entries (Err at) h e absent = absurd (false≢true e)

-- a year that would weigh too much
pub add_heavy : (year : ℕ) (product : List ℕ) (units mass : ℕ) (entries : List Entry) → entry_units year product entries + units ≤ 1000000000000 → nat_le (2 ^ 128) (entries_mass_in year (with_entry_units year product units mass entries)) ≡ true → add_answer year product units mass entries ≡ Err (YearTooLarge year)
add_heavy year product units mass entries fits heavy =
    cond-false (nat_lt 1000000000000 (entry_units year product entries + units)) (Err UnitsTooLarge) (cond (nat_le (2 ^ 128) (entries_mass_in year (with_entry_units year product units mass entries))) (Err (YearTooLarge year)) (Ok tt)) (le-ltb 1000000000000 (entry_units year product entries + units) fits)
    ∙ cond-true (nat_le (2 ^ 128) (entries_mass_in year (with_entry_units year product units mass entries))) (Err (YearTooLarge year)) (Ok tt) heavy

pub add_ready : (year : ℕ) (product : List ℕ) (units mass : ℕ) (entries : List Entry) → entry_units year product entries + units ≤ 1000000000000 → nat_le (2 ^ 128) (entries_mass_in year (with_entry_units year product units mass entries)) ≡ false → add_answer year product units mass entries ≡ Ok tt
add_ready year product units mass entries fits light =
    cond-false (nat_lt 1000000000000 (entry_units year product entries + units)) (Err UnitsTooLarge) (cond (nat_le (2 ^ 128) (entries_mass_in year (with_entry_units year product units mass entries))) (Err (YearTooLarge year)) (Ok tt)) (le-ltb 1000000000000 (entry_units year product entries + units) fits)
    ∙ cond-false (nat_le (2 ^ 128) (entries_mass_in year (with_entry_units year product units mass entries))) (Err (YearTooLarge year)) (Ok tt) light

-- a sum that would be too large
pub sum_too_large : (kept more whole : ℕ) (r : Option ℕ) (none : Bool) → whole ≡ kept + more → SomeIff r (kept + more < 2 ^ 128) (kept + more) → is_some r ≡ not none → none ≡ nat_le (2 ^ 128) whole
sum_too_large kept more whole (Some sum) true is h e = absurd (false≢true (sym e))
sum_too_large kept more whole (Some sum) false is h e = sym (lt-leb (2 ^ 128) whole (omega (arith, is, h.0)))
sum_too_large kept more whole None true is h e = sym (le-leb (2 ^ 128) whole (omega (arith, is, h)))
sum_too_large kept more whole None false is h e = absurd (false≢true e)

pub product_too_large : (kept units mass whole : ℕ) → whole ≡ kept + units * mass → (units * mass < 2 ^ 128 → ⊥) → true ≡ nat_le (2 ^ 128) whole
product_too_large kept units mass whole is h = sym (le-leb (2 ^ 128) whole (omega (arith, is, h)))

-- a list changed in place, one element further
pub changed_more : {X : Type 0} (f : X → X) (xs ys : List X) (i : ℕ) (d : X) → i < length xs → ys ≡ map f (take i xs) ++ drop i xs → set ys i (f (get_or ys i d)) ≡ map f (take (i + 1) xs) ++ drop (i + 1) xs
changed_more f [] ys i d b e = absurd (omega arith)
changed_more f (x ∷ xs) ys zero d b e = rw e refl
changed_more f (x ∷ xs) ys (suc i) d b e =
    let next : suc i + 1 ≡ suc (i + 1) = omega arith in
    rw (e, next) (ap (λ rest. f x ∷ rest) (changed_more f xs (map f (take i xs) ++ drop i xs) i d (omega arith) refl))
