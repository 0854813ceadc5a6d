-- The masses that nodes have of their own, in order.
use Rattle.std.proofs.Common.{◌≡◌, Bool, true, false, not, List, [], ◌∷◌, ◌++◌, Option, Some, None, map, refl, sym, ap, ◌∙◌, Ordering, is_some}
use Rattle.std.specs.Cmp.{IsTotalOrder}
use Rattle.std.specs.List.{AllByRecursion}
use Rattle.std.proofs.lemmas.Bool.{not-true}
use Rattle.std.proofs.lemmas.Cmp.{tied_itself}
use Rattle.desk_text.specs.Code.{code_cmp}
use Rattle.desk_rows.specs.Rows.{IsByKey, row_of}
use Rattle.desk_rows.proofs.Order.{AllAbove, first_above, rest_by_key}
use Rattle.desk_model.specs.declared.rows.material.MaterialRow.{MaterialRow}
use Rattle.desk_model.specs.declared.rows.part.PartRow.{PartRow}
use Rattle.desk_model.specs.Lists.{Lists, is_material, material_row}
use Rattle.desk_model.proofs.Elements.{each_from_all}
use Rattle.desk_model.proofs.Kept.{code_cmp_total}
use Rattle.desk_findings.specs.Mass.{own_mass}
use Rattle.desk_history.specs.Sound.{IsConsistent}

module _ {R K : Type 0} (key : R → K) (cmp : K → K → Ordering) (o : IsTotalOrder cmp) where
  found_behind : (first : R) (rows more : List R) → AllAbove key cmp o (key first) more → AllByRecursion (λ row. row_of key cmp (key row) rows ≡ Some row) more → AllByRecursion (λ row. row_of key cmp (key row) (first ∷ rows) ≡ Some row) more
  found_behind first rows [] a h = tt
  found_behind first rows (row ∷ more) a h = (rw a.0 h.0, found_behind first rows more a.1 h.1)

  -- each row is found by its key
  pub each_found : (rows : List R) → IsByKey key cmp rows → AllByRecursion (λ row. row_of key cmp (key row) rows ≡ Some row) rows
  each_found [] h = tt
  each_found (first ∷ rows) h =
      (rw (tied_itself o (key first)) refl, found_behind first rows rows (first_above key cmp o first rows h) (each_found rows (rest_by_key key cmp o first rows h)))

module _ (t : Lists) where
  of_materials : (rows : List MaterialRow) → AllByRecursion (λ row. material_row t row.code ≡ Some row) rows → map (own_mass t) (map (λ row. row.code) rows) ≡ map (λ row. row.mass) rows
  of_materials [] h = refl
  of_materials (row ∷ rows) h = rw h.0 (ap (λ rest. row.mass ∷ rest) (of_materials rows h.1))

  of_parts : (rows : List PartRow) → AllByRecursion (λ row. not (is_material t row.code) ≡ true) rows → map (own_mass t) (map (λ row. row.code) rows) ≡ map (λ row. 0) rows
  of_parts [] h = refl
  of_parts (row ∷ rows) h = rw (none_kept (material_row t row.code) (not-true (is_material t row.code) h.0)) (ap (λ rest. 0 ∷ rest) (of_parts rows h.1))
    where
      none_kept : (o : Option MaterialRow) → is_some o ≡ false → o ≡ None
      none_kept None e = refl
      none_kept (Some row) e = cc

  map_append : {X Y : Type 0} (f : X → Y) (xs ys : List X) → map f (xs ++ ys) ≡ map f xs ++ map f ys
  map_append f [] ys = refl
  map_append f (x ∷ xs) ys = ap (λ rest. f x ∷ rest) (map_append f xs ys)

  -- a material has its own mass, and a part none
  pub own_masses : IsConsistent t → map (λ row. row.mass) t.materials ++ map (λ row. 0) t.parts ≡ map (own_mass t) (map (λ row. row.code) t.materials ++ map (λ row. row.code) t.parts)
  own_masses s =
      sym
      (map_append (own_mass t) (map (λ row. row.code) t.materials) (map (λ row. row.code) t.parts)
      ∙ ap (λ masses. masses ++ map (own_mass t) (map (λ row. row.code) t.parts)) (of_materials t.materials (each_found (λ row. row.code) code_cmp code_cmp_total t.materials s.ordered.materials))
      ∙ ap (λ masses. map (λ row. row.mass) t.materials ++ masses) (of_parts t.parts (each_from_all (λ part. not (is_material t part.code)) t.parts s.codes_apart)))
