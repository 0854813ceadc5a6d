-- What articles hold of substances is no more than they weigh, so that it fits where the masses do.
use Rattle.std.proofs.Common.{◌≡◌, ℕ, ◌*◌, ◌^◌, ◌<◌, ◌≤◌, true, false, cond, not, List, [], ◌∷◌, find, length, map, sum_by, Option, Some, None, refl, ap, ◌∙◌, arith, mul-le-mul_left}
use Rattle.std.specs.Prelude.{nat_le}
use Rattle.std.specs.List.{All, AllByRecursion}
use Rattle.std.specs.Option.{option_map_or}
use Rattle.std.proofs.lemmas.Bool.{leb-false, ltb-false, not-true}
use Rattle.std.proofs.lemmas.List.Elements.{All-from_recursion}
use Rattle.std.proofs.lemmas.List.Sums.{sum_by-cons}
use Rattle.desk_text.specs.Code.{same_code}
use Rattle.desk_model.specs.declared.limits.TheConstants.{CONTENT_LIMIT}
use Rattle.desk_model.specs.declared.rows.material.MaterialRow.{MaterialRow}
use Rattle.desk_model.specs.declared.rows.part.PartRow.{PartRow}
use Rattle.desk_model.specs.declared.substance_mass.SubstanceMass.{SubstanceMass}
use Rattle.desk_model.specs.Content.{holds_too_much}
use Rattle.desk_model.specs.Forms.{is_material_row}
use Rattle.desk_model.specs.Lists.{Lists, material_row}
use Rattle.desk_model.proofs.Content.{content_parts, substance_parts}
use Rattle.desk_model.proofs.Elements.{each, each_from_all, each_map, sum_le}
use Rattle.desk_model.proofs.Kept.{found_each}
use Rattle.desk_findings.specs.Above.{content, held_mass, mass_in}
use Rattle.desk_findings.specs.Mass.{mass}
use Rattle.desk_findings.specs.Reaches.{lines_of}
use Rattle.desk_findings.specs.Totals.{too_heavy_part}
use Rattle.desk_findings.proofs.Loads.{mass-step}
use Rattle.desk_history.specs.Sound.{IsConsistent}
use Rattle.desk_history.proofs.SoundClauses.{bill_of, forms_of}
use Rattle.desk_history.proofs.Masses.{none_first}
use Rattle.desk_tables.proofs.KeptForms.{content_of}
use Rattle.desk_totals.specs.Fit.{fit}
use Rattle.desk_totals.proofs.Fits.{fit-below}

held-le : (substance : List ℕ) (held : List SubstanceMass) → held_mass substance held ≤ sum_by (λ one. one.mass) held
held-le substance [] = omega arith
held-le substance (one ∷ held) =
    elim (same_code one.substance substance) as (λ b. option_map_or (λ x. x.mass) (cond b (Some one) (find (λ x. same_code x.substance substance) held)) 0 ≤ sum_by (λ x. x.mass) (one ∷ held)) [
      | true ↦ omega (arith, sum_by-cons (λ x. x.mass) one held)
      | false ↦ omega (arith, sum_by-cons (λ x. x.mass) one held, held-le substance held)
    ]

module _ (t : Lists) (s : IsConsistent t) where
  fits : AllByRecursion (λ material. not (holds_too_much material.mass material.substances) ≡ true) t.materials
  fits = each_from_all (λ material. not (holds_too_much material.mass material.substances)) t.materials s.contents_fit

  material_holds : (substance code : List ℕ) (o : Option MaterialRow) → material_row t code ≡ o → option_map_or (λ material. held_mass substance material.substances) o 0 ≤ option_map_or (λ material. material.mass) o 0
  material_holds substance code None e = omega arith
  material_holds substance code (Some material) e =
      let found = found_each (λ row. row.code) (λ row. not (holds_too_much row.mass row.substances) ≡ true) code t.materials material fits e in
      let whole = ltb-false material.mass (sum_by (λ one. one.mass) material.substances) (not-true _ found.0) in
      omega (arith, held-le substance material.substances, whole)

  material_within : (substance code : List ℕ) → mass_in t substance code ≤ mass t code
  material_within substance code = omega (arith, material_holds substance code (material_row t code) refl, mass-step t (bill_of t s) code)

  -- what an article holds of a substance is no more than it weighs
  pub within_mass : (article substance : List ℕ) → content t article substance ≤ mass t article
  unfolding content
  within_mass article substance =
      omega (
        arith,
        mass-step t (bill_of t s) article,
        sum_le (λ line. line.count * mass_in t substance line.child) (λ line. line.count * mass t line.child) (lines_of t.lines article)
            (each (λ line. line.count * mass_in t substance line.child ≤ line.count * mass t line.child) (λ line. mul-le-mul_left line.count (material_within substance line.child)) (lines_of t.lines article)),
      )

  -- no material has more substances than a material may have
  pub few_held : All (λ material. length material.substances ≤ CONTENT_LIMIT) t.materials
  few_held =
      All-from_recursion (λ material. length material.substances ≤ CONTENT_LIMIT) t.materials
      (each_map (λ row. is_material_row row ≡ true) (λ material. length material.substances ≤ CONTENT_LIMIT)
      (λ row form. (substance_parts row.substances (content_parts row.mass row.substances row.claims (content_of row form)).substances).fits) t.materials
      (each_from_all is_material_row t.materials (forms_of t s.in_form).materials))

  module _ (light : too_heavy_part t ≡ None) where
    each_light : AllByRecursion (λ part. nat_le (2 ^ 128) (mass t part.code) ≡ false) t.parts
    unfolding too_heavy_part
    each_light = none_first (λ part. part.code) (λ part. nat_le (2 ^ 128) (mass t part.code)) t.parts light

    -- what each part holds of a substance fits
    pub contents_fit : All (λ part. (substance : List ℕ) → content t part.code substance < 2 ^ 128) t.parts
    contents_fit =
        All-from_recursion (λ part. (substance : List ℕ) → content t part.code substance < 2 ^ 128) t.parts
        (each_map (λ part. nat_le (2 ^ 128) (mass t part.code) ≡ false) (λ part. (substance : List ℕ) → content t part.code substance < 2 ^ 128)
        (λ part h substance. less (2 ^ 128) (content t part.code substance) (mass t part.code) (within_mass part.code substance) (leb-false (2 ^ 128) (mass t part.code) h)) t.parts each_light)
      where
        less : (bound a b : ℕ) → a ≤ b → b < bound → a < bound
        less bound a b h k = omega (arith, h, k)

    fitting : (parts : List PartRow) → AllByRecursion (λ part. nat_le (2 ^ 128) (mass t part.code) ≡ false) parts → map (λ part. fit (mass t part.code)) parts ≡ map (λ part. Some (mass t part.code)) parts
    fitting [] a = refl
    fitting (part ∷ parts) a =
        ap (λ first. first ∷ map (λ part. fit (mass t part.code)) parts) (fit-below (2 ^ 128) (mass t part.code) (leb-false (2 ^ 128) (mass t part.code) a.0))
        ∙ ap (λ rest. Some (mass t part.code) ∷ rest) (fitting parts a.1)

    -- each part's mass fits
    pub masses_fit : map (λ part. fit (mass t part.code)) t.parts ≡ map (λ part. Some (mass t part.code)) t.parts
    masses_fit = fitting t.parts each_light
