-- The rows of a declaration stand in order.
use Rattle.std.proofs.Common.{◌≡◌, true, List, [], ◌∷◌, map, refl, ap, sym, subst, ◌∙◌, ℕ, ◌≤◌, length, take}
use Rattle.desk_model.specs.declared.rows.material.MaterialRow.{MaterialRow}
use Rattle.std.specs.List.Sorted.{IsStrictlySortedBy}
use Rattle.desk_text.specs.Code.{code_cmp}
use Rattle.desk_rows.specs.Rows.{IsByKey}
use Rattle.desk_model.specs.declared.material_decl.MaterialDecl.{MaterialDecl}
use Rattle.desk_model.specs.Declaration.{Declared, is_declaration}
use Rattle.desk_model.specs.Effect.{declared_row, declared_rows}
use Rattle.desk_model.proofs.Declaring.{parts}
use Rattle.desk_tables.proofs.Taken.{take_whole}

same_codes : (d : Declared) (materials : List MaterialDecl) → map (λ row. row.code) (map (declared_row d) materials) ≡ map (λ material. material.code) materials
same_codes d [] = refl
same_codes d (material ∷ materials) = ap (λ codes. material.code ∷ codes) (same_codes d materials)

pub rows_by_key : (d : Declared) → is_declaration d ≡ true → IsByKey (λ row. row.code) code_cmp (declared_rows d)
rows_by_key d h = subst (IsStrictlySortedBy code_cmp) (sym (same_codes d d.materials)) (parts d h).by_key

pub all_rows_by_key : (d : Declared) → is_declaration d ≡ true → (materials : List MaterialDecl) (rows : List MaterialRow) (i : ℕ) → rows ≡ map (declared_row d) (take i materials) → materials ≡ d.materials → length materials ≤ i → IsByKey (λ row. row.code) code_cmp rows
all_rows_by_key d h materials rows i e same l =
    let whole = e ∙ ap (map (declared_row d)) (take_whole materials i l ∙ same) in
    subst (IsByKey (λ row. row.code) code_cmp) (sym whole) (rows_by_key d h)
