-- What a part carries never exceeds its mass.
use Rattle.std.proofs.Common.{◌≡◌, ℕ, ◌+◌, ◌*◌, ◌≤◌, Bool, true, false, cond, not, ◌&&◌, List, [], ◌∷◌, find, sum_by, Option, Some, None, refl, sym, ◌∙◌, subst, inl, inr, arith, mul-le-mul_left}
use Rattle.std.specs.Prelude.{if◌then◌else◌}
use Rattle.std.specs.List.{AllByRecursion}
use Rattle.std.specs.Option.{option_map_or}
use Rattle.std.proofs.lemmas.Bool.{cases_Bool, not-true, ltb-false}
use Rattle.std.proofs.lemmas.List.Sums.{sum_by-cons}
use Rattle.desk_text.specs.Code.{same_code}
use Rattle.desk_model.specs.declared.rows.material.MaterialRow.{MaterialRow}
use Rattle.desk_model.specs.declared.substance_mass.SubstanceMass.{SubstanceMass}
use Rattle.desk_findings.specs.Above.{content, held_mass, is_above, mass_in}
use Rattle.desk_findings.specs.Articles.{is_article}
use Rattle.desk_findings.specs.Carried.{carried, own_load}
use Rattle.desk_model.specs.Content.{holds_too_much}
use Rattle.desk_model.specs.Lists.{Lists, is_material, is_part, material_row}
use Rattle.desk_findings.specs.Mass.{mass, own_mass}
use Rattle.desk_findings.specs.Reaches.{lines_of}
use Rattle.desk_findings.specs.Bill.{IsBill, are_children_right, are_codes_apart, do_contents_fit, has_right_child, is_acyclic}
use Rattle.desk_findings.proofs.Bill.{bill_induction, has_parents, lines_of-none, rolled-step}
use Rattle.desk_model.proofs.Elements.{each, each_filter, each_from_all, each_map, sum_le, sum_zero}
use Rattle.desk_model.proofs.Kept.{found_each, same_code-true}
use Rattle.desk_findings.proofs.Children.{article_child, each_right_child, is_part-article, not_part, parents_kept}

held_mass-le : (substance : List ℕ) (held : List SubstanceMass) → held_mass substance held ≤ sum_by (λ one. one.mass) held
held_mass-le substance [] = omega arith
held_mass-le substance (one ∷ held) =
    elim (same_code one.substance substance) as (λ b. option_map_or (λ x. x.mass) (cond b (Some one) (find (λ x. same_code x.substance substance) held)) 0 ≤ sum_by (λ x. x.mass) (one ∷ held)) [
      | true ↦ omega (arith, sum_by-cons (λ x. x.mass) one held)
      | false ↦ omega (arith, sum_by-cons (λ x. x.mass) one held, held_mass-le substance held)
    ]

-- masses and loads, by the lines of a part
module _ (t : Lists) (bill : IsBill t) where
  pub mass-step : (code : List ℕ) → mass t code ≡ own_mass t code + sum_by (λ line. line.count * mass t line.child) (lines_of t.lines code)
  mass-step code = rolled-step t (has_parents t bill.parents) bill.acyclic (own_mass t) code

  pub carried-step : (substance code : List ℕ) → carried t substance code ≡ own_load t substance code + sum_by (λ line. line.count * carried t substance line.child) (lines_of t.lines code)
  carried-step substance code = rolled-step t (has_parents t bill.parents) bill.acyclic (own_load t substance) code

module _ (t : Lists) (right : are_children_right t ≡ true) (apart : are_codes_apart t ≡ true) (fit : do_contents_fit t ≡ true) (acyclic : is_acyclic t ≡ true) where
  bill : IsBill t
  bill = record { parents = parents_kept t right; acyclic = acyclic }

  fits : AllByRecursion (λ material. not (holds_too_much material.mass material.substances) ≡ true) t.materials
  fits = each_from_all (λ material. not (holds_too_much material.mass material.substances)) t.materials fit

  material_holds : (substance code : List ℕ) (o : Option MaterialRow) → material_row t code ≡ o → option_map_or (λ material. held_mass substance material.substances) o 0 ≤ option_map_or (λ material. material.mass) o 0
  material_holds substance code None e = omega arith
  material_holds substance code (Some material) e =
      let found = found_each (λ row. row.code) (λ row. not (holds_too_much row.mass row.substances) ≡ true) code t.materials material fits e in
      let whole = ltb-false material.mass (sum_by (λ one. one.mass) material.substances) (not-true _ found.0) in
      omega (arith, held_mass-le substance material.substances, whole)

  -- a material holds no more of a substance than it weighs
  mass_in-le : (substance code : List ℕ) → mass_in t substance code ≤ mass t code
  mass_in-le substance code = omega (arith, material_holds substance code (material_row t code) refl, mass-step t bill code)

  -- an article has no more of a substance than it weighs
  content-le : (article substance : List ℕ) → content t article substance ≤ sum_by (λ line. line.count * mass t line.child) (lines_of t.lines article)
  unfolding content
  content-le article substance =
      sum_le (λ line. line.count * mass_in t substance line.child) (λ line. line.count * mass t line.child) (lines_of t.lines article)
      (each (λ line. line.count * mass_in t substance line.child ≤ line.count * mass t line.child) (λ line. mul-le-mul_left line.count (mass_in-le substance line.child)) (lines_of t.lines article))

  -- a material carries nothing
  carried-material : (substance code : List ℕ) → is_material t code ≡ true → carried t substance code ≡ 0
  carried-material substance code kept =
      let absent = not_part t apart code kept in
      carried-step t bill substance code
      ∙ rw (lines_of-none t (has_parents t bill.parents) code absent)
      (omega (arith, own_load-none substance code absent))
    where
      own_load-none : (substance code : List ℕ) → is_part t code ≡ false → own_load t substance code ≡ 0
      own_load-none substance code absent =
          elim (cases_Bool (is_article t code)) [
            | inl article ↦ absurd (Rattle.std.proofs.lemmas.Bool.both_ways (is_part t code) absent (is_part-article t code article))
            | inr other ↦ rw other refl
          ]

  -- each line of an article leads to a material
  article_lines : (code : List ℕ) → is_article t code ≡ true → AllByRecursion (λ line. is_material t line.child ≡ true) (lines_of t.lines code)
  article_lines code article =
      each_map (λ line. (has_right_child t line ≡ true) × (same_code line.parent code ≡ true)) (λ line. is_material t line.child ≡ true)
      (λ line h. article_child t line h.0 (subst (λ c. is_article t c ≡ true) (sym (same_code-true line.parent code h.1)) article))
      (lines_of t.lines code)
      (each_filter (λ line. has_right_child t line ≡ true) (λ line. same_code line.parent code) t.lines (each_right_child t right))

  zero_times : (n m : ℕ) → m ≡ 0 → n * m ≡ 0
  zero_times n m e = rw e (omega arith)

  carried_by : (substance code : List ℕ) (article above : Bool) → is_article t code ≡ article → AllByRecursion (λ line. carried t substance line.child ≤ mass t line.child) (lines_of t.lines code) → (if article && above then content t code substance else 0) + sum_by (λ line. line.count * carried t substance line.child) (lines_of t.lines code) ≤ sum_by (λ line. line.count * mass t line.child) (lines_of t.lines code)
  carried_by substance code true true e below =
      let nothing =
      sum_zero (λ line. line.count * carried t substance line.child) (lines_of t.lines code)
      (each_map (λ line. is_material t line.child ≡ true) (λ line. line.count * carried t substance line.child ≡ 0)
      (λ line kept. zero_times line.count (carried t substance line.child) (carried-material substance line.child kept)) (lines_of t.lines code) (article_lines code e)) in
      omega (arith, nothing, content-le code substance)
  carried_by substance code true false e below =
      omega (
        arith,
        sum_le (λ line. line.count * carried t substance line.child) (λ line. line.count * mass t line.child) (lines_of t.lines code)
            (each_map (λ line. carried t substance line.child ≤ mass t line.child) (λ line. line.count * carried t substance line.child ≤ line.count * mass t line.child) (λ line h. mul-le-mul_left line.count h) (lines_of t.lines code) below),
      )
  carried_by substance code false above e below =
      omega (
        arith,
        sum_le (λ line. line.count * carried t substance line.child) (λ line. line.count * mass t line.child) (lines_of t.lines code)
            (each_map (λ line. carried t substance line.child ≤ mass t line.child) (λ line. line.count * carried t substance line.child ≤ line.count * mass t line.child) (λ line h. mul-le-mul_left line.count h) (lines_of t.lines code) below),
      )

  -- what a part carries of a substance is at most its mass
  pub carried-le : (substance code : List ℕ) → carried t substance code ≤ mass t code
  carried-le substance =
      bill_induction t (has_parents t bill.parents) acyclic (λ code. carried t substance code ≤ mass t code)
      (λ code below.
      omega (arith, carried-step t bill substance code, mass-step t bill code, carried_by substance code (is_article t code) (is_above t code substance) refl below))
