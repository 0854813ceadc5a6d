-- Sound tables keep masses below 2^128, and so what parts hold and carry.
use Rattle.std.proofs.Common.{◌≡◌, ℕ, ◌^◌, ◌<◌, ◌≤◌, Bool, true, false, List, [], ◌∷◌, ◌++◌, Option, Some, None, get_or, length, map, refl, sym, ap, ◌∙◌, arith}
use Rattle.std.specs.Prelude.{nat_le}
use Rattle.std.specs.List.{AllByRecursion}
use Rattle.std.specs.Option.{option_map_or}
use Rattle.std.proofs.lemmas.Bool.{leb-false}
use Rattle.std.proofs.lemmas.List.{get_or-map, map-append}
use Rattle.desk_model.specs.declared.rows.material.MaterialRow.{MaterialRow}
use Rattle.desk_model.specs.declared.rows.part.PartRow.{PartRow}
use Rattle.desk_model.specs.Lists.{Lists, is_material, is_part, part_row}
use Rattle.desk_model.proofs.Kept.{code_cmp_total, each_kept, kept_each}
use Rattle.desk_text.specs.Code.{code_cmp}
use Rattle.desk_findings.specs.Above.{content}
use Rattle.desk_findings.specs.Articles.{is_article}
use Rattle.desk_findings.specs.Carried.{carried, own_load}
use Rattle.desk_findings.specs.Mass.{mass}
use Rattle.desk_findings.specs.Totals.{too_heavy_part}
use Rattle.desk_findings.proofs.Children.{not_part}
use Rattle.desk_findings.proofs.Loads.{carried-le}
use Rattle.desk_history.specs.Sound.{Sound}
use Rattle.desk_history.proofs.SoundClauses.{right_of}
use Rattle.desk_history.proofs.Masses.{none_first}
use Rattle.desk_tables.proofs.HeldMasses.{within_mass}
use Rattle.desk_totals.specs.Fit.{fit}
use Rattle.desk_totals.specs.Places.{node_at}
use Rattle.desk_totals.proofs.Fits.{fit-below}
use Rattle.desk_model.specs.Lists.{nodes_of}

pub none_or_some : (o : Option ℕ) (n : ℕ) → o ≡ None → o ≡ Some n → ⊥
none_or_some None n e f = cc
none_or_some (Some m) n e f = cc

less : (bound a b : ℕ) → a ≤ b → b < bound → a < bound
less bound a b h k = omega (arith, h, k)

module _ (t : Lists) (s : Sound t) where
  light_by : (bound : ℕ) → AllByRecursion (λ part. nat_le bound (mass t part.code) ≡ false) t.parts → (code : List ℕ) → is_part t code ≡ true → mass t code < bound
  light_by bound each code kept = leb-false bound (mass t code) (kept_each (λ row. row.code) (λ c. nat_le bound (mass t c) ≡ false) code t.parts each kept)

  pub mass_light : (code : List ℕ) → is_part t code ≡ true → mass t code < 2 ^ 128
  unfolding too_heavy_part
  mass_light = light_by (2 ^ 128) (none_first (λ part. part.code) (λ part. nat_le (2 ^ 128) (mass t part.code)) t.parts s.sums.parts_fit)

  pub content_light : (code substance : List ℕ) → is_part t code ≡ true → content t code substance < 2 ^ 128
  content_light code substance kept = less (2 ^ 128) (content t code substance) (mass t code) (within_mass t s.consistent code substance) (mass_light code kept)

  pub carried_light : (code substance : List ℕ) → is_part t code ≡ true → carried t substance code < 2 ^ 128
  carried_light code substance kept =
      less (2 ^ 128) (carried t substance code) (mass t code)
      (carried-le t (right_of t s.consistent) s.consistent.codes_apart s.consistent.contents_fit s.consistent.acyclic substance code) (mass_light code kept)

  pub mass_fits : (code : List ℕ) → is_part t code ≡ true → fit (mass t code) ≡ Some (mass t code)
  mass_fits code kept = fit-below (2 ^ 128) (mass t code) (mass_light code kept)

  pub carried_fits : (code substance : List ℕ) → is_part t code ≡ true → fit (carried t substance code) ≡ Some (carried t substance code)
  carried_fits code substance kept = fit-below (2 ^ 128) (carried t substance code) (carried_light code substance kept)

  -- what stands at the place of a part among the loads
  pub load_at : (loads : List (Option ℕ)) (nodes : List (List ℕ)) (substance code : List ℕ) (place : ℕ) → loads ≡ map (λ c. fit (carried t substance c)) (nodes_of t) → nodes ≡ nodes_of t
      → place < length nodes → node_at nodes place ≡ code → is_part t code ≡ true → get_or loads place None ≡ Some (carried t substance code)
  load_at loads nodes substance code place are same inside here kept =
      ap (λ list. get_or list place None) (are ∙ ap (map (λ c. fit (carried t substance c))) (sym same))
      ∙ get_or-map (λ c. fit (carried t substance c)) nodes place [] None inside
      ∙ ap (λ c. fit (carried t substance c)) here
      ∙ carried_fits code substance kept

  -- no material has a load of its own
  none_own : (substance : List ℕ) (rows : List MaterialRow) → AllByRecursion (λ row. is_material t row.code ≡ true) rows → map (λ row. 0) rows ≡ map (own_load t substance) (map (λ row. row.code) rows)
  none_own substance [] h = refl
  none_own substance (row ∷ rows) h =
      rw (none_article row.code (not_part t s.consistent.codes_apart row.code h.0)) (ap (λ rest. 0 ∷ rest) (none_own substance rows h.1))
    where
      by : (o : Option PartRow) → Rattle.std.proofs.Common.is_some o ≡ false → option_map_or (λ part. Rattle.desk_findings.specs.Articles.is_article_sort part.sort) o false ≡ false
      by None e = refl
      by (Some part) e = cc

      none_article : (code : List ℕ) → is_part t code ≡ false → is_article t code ≡ false
      none_article code absent = by (part_row t code) absent

  map_map : (f : List ℕ → ℕ) (rows : List PartRow) → map (λ row. f row.code) rows ≡ map f (map (λ row. row.code) rows)
  map_map f [] = refl
  map_map f (row ∷ rows) = ap (λ rest. f row.code ∷ rest) (map_map f rows)

  pub own_loads : (substance : List ℕ) → map (λ row. 0) t.materials ++ map (λ row. own_load t substance row.code) t.parts ≡ map (own_load t substance) (nodes_of t)
  own_loads substance =
      ap (λ list. list ++ map (λ row. own_load t substance row.code) t.parts) (none_own substance t.materials (each_kept (λ row. row.code) code_cmp code_cmp_total t.materials))
      ∙ ap (λ list. map (own_load t substance) (map (λ row. row.code) t.materials) ++ list) (map_map (own_load t substance) t.parts)
      ∙ sym (map-append (own_load t substance) (map (λ row. row.code) t.materials) (map (λ row. row.code) t.parts))
