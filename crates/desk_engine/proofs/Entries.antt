-- Which entries a plan of the years leaves, and that no year of them weighs too much.
use Rattle.std.proofs.Common.{◌≡◌, ◌≢◌, ℕ, ◌+◌, ◌^◌, ◌<◌, ◌≤◌, true, false, cond, List, [], ◌∷◌, find, length, Option, Some, None, Result, Ok, Err, refl, sym, ap, ◌∙◌, subst, inl, inr, arith}
use Rattle.std.specs.Prelude.{◌==◌, nat_le, nat_lt, option_map}
use Rattle.std.proofs.lemmas.Bool.{cases_Bool, cond-false, eqb-true, le-ltb, leb-false, leb-true, lt-leb}
use Rattle.desk_tonnage.specs.declared.entry.Entry.{Entry}
use Rattle.desk_tonnage.specs.declared.fault.MassFault.{MassFault}
use Rattle.desk_tonnage.specs.declared.fault.MassFault.TheVariants as mass_fault
use Rattle.desk_tonnage.specs.declared.fault.TonnageFault.{TonnageFault}
use Rattle.desk_tonnage.specs.declared.fault.TonnageFault.TheVariants.{OutOfMemory, UnitsTooLarge, YearTooLarge}
use Rattle.desk_tonnage.specs.declared.product_mass.ProductMass.{ProductMass}
use Rattle.desk_tonnage.specs.Edits.{add_answer, entry_with, with_entry, with_entry_units, without_entry_units}
use Rattle.desk_tonnage.specs.Entries.{entry_units}
use Rattle.desk_tonnage.specs.Kept.{IsAddPlan, KeptEntries, PlannedEntry}
use Rattle.desk_tonnage.specs.Masses.{unless_heavy, with_masses}
use Rattle.desk_tonnage.specs.Years.{IsYearly, too_heavy_entry_year, entries_mass_in}
use Rattle.desk_tonnage.proofs.Kept.{no_masses, none_heavy, with_entry-kept, without_units-kept}
use Rattle.desk_tonnage.proofs.Weights.{weight_in, year_mass-put}
use Rattle.desk_engine.specs.declared.years.YearsPlan.TheVariants as plan
use Rattle.desk_engine.specs.Years.{LeavesEntries}

-- where every year is light, none is told
all_light : (entries : List Entry) → ((year : ℕ) → entries_mass_in year entries < 2 ^ 128) → too_heavy_entry_year entries ≡ None
all_light entries light = none_found entries
  where
    none_found : (some : List Entry) → option_map (λ (entry : Entry). entry.year) (find (λ entry. nat_le (2 ^ 128) (entries_mass_in entry.year entries)) some) ≡ None
    none_found [] = refl
    none_found (entry ∷ some) = rw (lt-leb (2 ^ 128) (entries_mass_in entry.year entries) (light entry.year)) (none_found some)

pub yearly_light : (entries : List Entry) → IsYearly entries → too_heavy_entry_year entries ≡ None
yearly_light entries yearly = all_light entries yearly.masses

-- a year that is told is heavy
told_heavy : (year : ℕ) (all entries : List Entry) → option_map (λ (entry : Entry). entry.year) (find (λ entry. nat_le (2 ^ 128) (entries_mass_in entry.year all)) entries) ≡ Some year → 2 ^ 128 ≤ entries_mass_in year all
told_heavy year all [] e = cc
told_heavy year all (entry ∷ entries) e =
    elim (nat_le (2 ^ 128) (entries_mass_in entry.year all)) as (λ b. nat_le (2 ^ 128) (entries_mass_in entry.year all) ≡ b → option_map (λ (entry : Entry). entry.year) (cond b (Some entry) (find (λ later. nat_le (2 ^ 128) (entries_mass_in later.year all)) entries)) ≡ Some year → 2 ^ 128 ≤ entries_mass_in year all) [
      | true ↦ λ heavy same. subst (λ y. 2 ^ 128 ≤ entries_mass_in y all) (inside same) (leb-true (2 ^ 128) (entries_mass_in entry.year all) heavy)
      | false ↦ λ light later. told_heavy year all entries later
    ] refl e
  where
    inside : {x y : ℕ} → Some x ≡ Some y → x ≡ y
    inside e = cc

-- units that are added
module _ (year : ℕ) (product : List ℕ) (units mass : ℕ) (entries : List Entry) (yearly : IsYearly entries) (some : 1 ≤ units) (fits : entry_units year product entries + units ≤ 1000000000000) where
  answer_is : add_answer year product units mass entries ≡ cond (nat_le (2 ^ 128) (entries_mass_in year (with_entry_units year product units mass entries))) (Err (YearTooLarge year)) (Ok tt)
  answer_is = cond-false (nat_lt 1000000000000 (entry_units year product entries + units)) (Err UnitsTooLarge) (cond (nat_le (2 ^ 128) (entries_mass_in year (with_entry_units year product units mass entries))) (Err (YearTooLarge year)) (Ok tt)) (le-ltb 1000000000000 (entry_units year product entries + units) fits)

  other_year : (other : ℕ) → (year == other) ≡ false → entries_mass_in other (with_entry_units year product units mass entries) < 2 ^ 128
  other_year other away =
      let nothing : weight_in other (entry_with year product units mass entries) ≡ 0 = rw away refl in
      omega (arith, year_mass-put other (entry_with year product units mass entries) entries yearly.by_key, nothing, yearly.masses other)

  all_ready : nat_le (2 ^ 128) (entries_mass_in year (with_entry_units year product units mass entries)) ≡ false → too_heavy_entry_year (with_entry_units year product units mass entries) ≡ None
  all_ready e =
      yearly_light (with_entry_units year product units mass entries)
      (with_entry-kept (entry_with year product units mass entries) entries yearly (omega (arith, some), fits) (leb-false (2 ^ 128) (entries_mass_in year (with_entry_units year product units mass entries)) e))

  one_heavy : nat_le (2 ^ 128) (entries_mass_in year (with_entry_units year product units mass entries)) ≡ true → too_heavy_entry_year (with_entry_units year product units mass entries) ≡ Some year
  one_heavy e = by_told (too_heavy_entry_year (with_entry_units year product units mass entries)) refl
    where
      heavy : 2 ^ 128 ≤ entries_mass_in year (with_entry_units year product units mass entries)
      heavy = leb-true (2 ^ 128) (entries_mass_in year (with_entry_units year product units mass entries)) e

      by_told : (o : Option ℕ) → too_heavy_entry_year (with_entry_units year product units mass entries) ≡ o → too_heavy_entry_year (with_entry_units year product units mass entries) ≡ Some year
      by_told None none = absurd (omega (arith, heavy, none_heavy (with_entry_units year product units mass entries) none year))
      by_told (Some told) is =
          elim (cases_Bool (year == told)) [
            | inl same ↦ is ∙ ap Some (sym (eqb-true year told same))
            | inr away ↦ absurd (omega (arith, told_heavy told (with_entry_units year product units mass entries) (with_entry_units year product units mass entries) is, other_year told away))
          ]

  ready : add_answer year product units mass entries ≡ Ok tt → too_heavy_entry_year (with_entry_units year product units mass entries) ≡ None
  ready e =
      elim (cases_Bool (nat_le (2 ^ 128) (entries_mass_in year (with_entry_units year product units mass entries)))) [
        | inl heavy ↦ not_ok (ap (λ b. cond b (Err (YearTooLarge year)) (Ok tt)) (sym heavy) ∙ sym answer_is ∙ e)
        | inr light ↦ all_ready light
      ]
    where
      not_ok : {G : Type 0} {f : TonnageFault} {u : Unit {0}} → ◌≡◌ {A = Result (Unit {0}) TonnageFault} (Err f) (Ok u) → G
      not_ok h = cc

  heavy : (told : ℕ) → add_answer year product units mass entries ≡ Err (YearTooLarge told) → too_heavy_entry_year (with_entry_units year product units mass entries) ≡ Some told
  heavy told e =
      elim (cases_Bool (nat_le (2 ^ 128) (entries_mass_in year (with_entry_units year product units mass entries)))) [
        | inl is ↦ one_heavy is ∙ ap Some (same_year (ap (λ b. cond b (Err (YearTooLarge year)) (Ok tt)) (sym is) ∙ sym answer_is ∙ e))
        | inr light ↦ not_err (ap (λ b. cond b (Err (YearTooLarge year)) (Ok tt)) (sym light) ∙ sym answer_is ∙ e)
      ]
    where
      not_err : {G : Type 0} {f : TonnageFault} {u : Unit {0}} → ◌≡◌ {A = Result (Unit {0}) TonnageFault} (Ok u) (Err f) → G
      not_err h = cc

      same_year : {x y : ℕ} → ◌≡◌ {A = Result (Unit {0}) TonnageFault} (Err (YearTooLarge x)) (Err (YearTooLarge y)) → x ≡ y
      same_year h = cc

  pub heavy_by : (fault : TonnageFault) (told : ℕ) → fault ≡ YearTooLarge told → (fault ≢ OutOfMemory → add_answer year product units mass entries ≡ Err fault) → too_heavy_entry_year (with_entry_units year product units mass entries) ≡ Some told
  heavy_by fault told is refused = heavy told (subst (λ f. add_answer year product units mass entries ≡ Err f) is (refused (λ memory. not_memory (sym is ∙ memory))))
    where
      not_memory : {G : Type 0} → YearTooLarge told ≡ OutOfMemory → G
      not_memory h = cc

  pub adds : (years : KeptEntries) (adding : PlannedEntry) → years.entries ≡ entries → IsAddPlan years adding → adding.entry ≡ entry_with year product units mass entries → add_answer year product units mass entries ≡ Ok tt →
      LeavesEntries years (with_entry_units year product units mass entries) (plan.Adds adding)
  adds years adding is can entry e = record {
    can = can;
    leaves = ap (λ new. with_entry new years.entries) entry ∙ ap (with_entry (entry_with year product units mass entries)) is;
    light = ready e;
  }

-- units that are taken off
pub takes : (years : KeptEntries) (year : ℕ) (product : List ℕ) (units : ℕ) → IsYearly years.entries → units ≤ entry_units year product years.entries → LeavesEntries years (without_entry_units year product units years.entries) (plan.Takes year product units)
takes years year product units yearly enough = record {
  can = enough;
  leaves = refl;
  light = yearly_light (without_entry_units year product units years.entries) (without_units-kept year product units years.entries enough yearly);
}

-- masses that are given
pub none_listed : {X : Type 0} (xs : List X) → (length xs == 0) ≡ true → xs ≡ []
none_listed [] e = refl
none_listed (x ∷ xs) e = let none = eqb-true (length (x ∷ xs)) 0 e in absurd (omega (arith, none))

pub weighs_none : (years : KeptEntries) (masses : List ProductMass) → IsYearly years.entries → masses ≡ [] → LeavesEntries years (with_masses masses years.entries) plan.Leaves
weighs_none years masses yearly none = record {
  can = tt;
  leaves = sym (same);
  light = ap too_heavy_entry_year same ∙ yearly_light years.entries yearly;
}
  where
    same : with_masses masses years.entries ≡ years.entries
    same = ap (λ list. with_masses list years.entries) none ∙ no_masses years.entries

ok_light : (o : Option ℕ) (masses given : List ProductMass) → ◌≡◌ {A = Result (List ProductMass) MassFault} (Ok given) (unless_heavy o masses) → (o ≡ None) × (given ≡ masses)
ok_light None masses given e = (refl, inside e)
  where
    inside : {x y : List ProductMass} → ◌≡◌ {A = Result (List ProductMass) MassFault} (Ok x) (Ok y) → x ≡ y
    inside h = cc
ok_light (Some year) masses given e = cc

err_heavy : (o : Option ℕ) (masses : List ProductMass) (year : ℕ) → ◌≡◌ {A = Result (List ProductMass) MassFault} (Err (mass_fault.YearTooLarge year)) (unless_heavy o masses) → o ≡ Some year
err_heavy None masses year e = cc
err_heavy (Some told) masses year e = ap Some (sym (inside e))
  where
    inside : {x y : ℕ} → ◌≡◌ {A = Result (List ProductMass) MassFault} (Err (mass_fault.YearTooLarge x)) (Err (mass_fault.YearTooLarge y)) → x ≡ y
    inside h = cc

pub weighs : (years : KeptEntries) (masses given : List ProductMass) → ◌≡◌ {A = Result (List ProductMass) MassFault} (Ok given) (unless_heavy (too_heavy_entry_year (with_masses masses years.entries)) masses) → LeavesEntries years (with_masses masses years.entries) (plan.Weighs given)
weighs years masses given e =
    let parts = ok_light (too_heavy_entry_year (with_masses masses years.entries)) masses given e in
    subst (λ list. LeavesEntries years (with_masses masses years.entries) (plan.Weighs list)) (sym parts.1)
    (record { can = parts.0; leaves = refl; light = parts.0 })

pub weighs_too_much : (entries : List Entry) (masses : List ProductMass) (year : ℕ) → ◌≡◌ {A = Result (List ProductMass) MassFault} (Err (mass_fault.YearTooLarge year)) (unless_heavy (too_heavy_entry_year (with_masses masses entries)) masses) → too_heavy_entry_year (with_masses masses entries) ≡ Some year
weighs_too_much entries masses year e = err_heavy (too_heavy_entry_year (with_masses masses entries)) masses year e
