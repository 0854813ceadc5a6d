-- What an accepted declaration makes of sound tables keeps the clauses on rows, names and codes.
use Rattle.std.proofs.Common.{◌≡◌, true, false, not, ◌&&◌, List, find, map, length, Option, Some, None, is_some, refl, sym, ap, ◌∙◌, subst}
use Rattle.std.specs.Prelude.{nat_le, option_map}
use Rattle.std.specs.List.{AllByRecursion, list_all}
use Rattle.std.proofs.lemmas.Bool.{and_parts, both_ways, false_from_ne_true, not-false, not_from_false}
use Rattle.desk_text.specs.Code.{code_cmp, same_code}
use Rattle.desk_text.specs.Day.{is_day}
use Rattle.desk_rows.specs.Rows.{row_of, with_rows}
use Rattle.desk_rows.proofs.Edits.{IsByKey-with_rows}
use Rattle.desk_rows.proofs.Lookups.{kept-with_rows, row_of-with_rows_other}
use Rattle.desk_model.specs.declared.edit.Edit.TheVariants.{Declare}
use Rattle.desk_model.specs.declared.limits.TheConstants.{DECLARED_LIMIT}
use Rattle.desk_model.specs.declared.material_decl.MaterialDecl.{MaterialDecl}
use Rattle.desk_model.specs.declared.rows.material.MaterialRow.{MaterialRow}
use Rattle.desk_model.specs.Content.{holds_too_much, is_content, rises}
use Rattle.desk_model.specs.Declaration.{Declared, is_declaration, is_declaration_number}
use Rattle.desk_model.specs.Effect.{declared_rows, with_edit_made}
use Rattle.desk_model.specs.Forms.{is_content_in_form, is_declaration_in_form, is_edit_in_form, is_material_row}
use Rattle.desk_model.specs.Values.{is_code, is_name}
use Rattle.desk_model.specs.Lists.{Lists, is_material, is_part, is_substance}
use Rattle.desk_history.specs.Refused.{declared_substances, masses_exceed, name_taken, unknown_substance}
use Rattle.desk_history.proofs.ChangedTables.{good-materials}
use Rattle.desk_model.proofs.Elements.{all_from_each, each_both, each_from_all, each_in_flat_map, each_in_map, each_map, each_of_map, find-none}
use Rattle.desk_history.proofs.SoundClauses.{IsGood}
use Rattle.desk_model.proofs.Kept.{code_cmp_total, each_kept, same_code-true}
use Rattle.desk_history.proofs.MadeRows.{all_with_rows}
use Rattle.desk_history.proofs.Rules.{IsUnrefused}

pub unmapped : {X Y : Type 0} (f : X → Y) (o : Option X) → option_map f o ≡ None → o ≡ None
unmapped f None e = refl
unmapped f (Some x) e = some_none (f x) e
  where
    some_none : {Y : Type 0} (y : Y) {G : Type 0} → Some y ≡ None → G
    some_none y h = cc

-- the row of a declared material
abbrev row_from : Declared → MaterialDecl → MaterialRow
row_from d m = record {
  code = m.code;
  supplier = d.supplier;
  number = d.number;
  day = d.day;
  name = m.name;
  mass = m.mass;
  substances = m.substances;
  claims = m.claims;
}

-- the parts of a declaration in form
record InForm (d : Declared) : Type 0 where
  supplier : is_code d.supplier ≡ true
  number : is_declaration_number d.number ≡ true
  day : is_day d.day ≡ true
  contents : AllByRecursion (λ m. is_content m.mass m.substances m.claims ≡ true) d.materials
  forms : AllByRecursion (λ m. (is_code m.code && is_name m.name && is_content_in_form m.substances m.claims) ≡ true) d.materials

in_form : (d : Declared) → is_declaration_in_form d ≡ true → InForm d
unfolding is_declaration_in_form
in_form d e =
    let forms = λ (m : MaterialDecl). is_code m.code && is_name m.name && is_content_in_form m.substances m.claims in
    let contents = λ (m : MaterialDecl). is_content m.mass m.substances m.claims in
    let s4 = and_parts (is_code d.supplier && is_declaration_number d.number && is_day d.day && is_declaration d) (list_all forms d.materials) e in
    let s3 = and_parts (is_code d.supplier && is_declaration_number d.number && is_day d.day) (is_declaration d) s4.0 in
    let s2 = and_parts (is_code d.supplier && is_declaration_number d.number) (is_day d.day) s3.0 in
    let s1 = and_parts (is_code d.supplier) (is_declaration_number d.number) s2.0 in
    let c = and_parts (nat_le 1 d.number && nat_le (length d.materials) DECLARED_LIMIT && rises code_cmp (map (λ m. m.code) d.materials)) (list_all contents d.materials) s3.1 in
    record {
      supplier = s1.0;
      number = s1.1;
      day = s2.1;
      contents = each_from_all contents d.materials c.1;
      forms = each_from_all forms d.materials s4.1;
    }

row_in_form : (d : Declared) (m : MaterialDecl) → InForm d → is_content m.mass m.substances m.claims ≡ true → (is_code m.code && is_name m.name && is_content_in_form m.substances m.claims) ≡ true → is_material_row (row_from d m) ≡ true
unfolding is_material_row
row_in_form d m f content forms =
    let s2 = and_parts (is_code m.code && is_name m.name) (is_content_in_form m.substances m.claims) forms in
    let s1 = and_parts (is_code m.code) (is_name m.name) s2.0 in
    rw (s1.0, f.supplier, f.number, f.day, s1.1, content, s2.1) refl

module _ (t : Lists) (g : IsGood t) (d : Declared) where
  rows_in_form : is_declaration_in_form d ≡ true → list_all is_material_row (declared_rows d) ≡ true
  rows_in_form e =
      let f = in_form d e in
      all_from_each is_material_row (declared_rows d)
      (each_of_map (λ row. is_material_row row ≡ true) (row_from d) d.materials
      (each_map (λ m. (is_content m.mass m.substances m.claims ≡ true) × ((is_code m.code && is_name m.name && is_content_in_form m.substances m.claims) ≡ true)) (λ m. is_material_row (row_from d m) ≡ true)
      (λ m h. row_in_form d m f h.0 h.1) d.materials
      (each_both (λ m. is_content m.mass m.substances m.claims ≡ true) (λ m. (is_code m.code && is_name m.name && is_content_in_form m.substances m.claims) ≡ true) d.materials f.contents f.forms)))

  substances_known : unknown_substance t (Declare d) ≡ None → list_all (λ material. list_all (λ held. is_substance t held.substance) material.substances) (declared_rows d) ≡ true
  unfolding unknown_substance
  substances_known e =
      let none = find-none (λ code. not (is_substance t code)) (declared_substances d) (unmapped _ (find (λ code. not (is_substance t code)) (declared_substances d)) e) in
      all_from_each (λ material. list_all (λ held. is_substance t held.substance) material.substances) (declared_rows d)
      (each_of_map (λ material. list_all (λ held. is_substance t held.substance) material.substances ≡ true) (row_from d) d.materials
      (each_map (λ m. AllByRecursion (λ code. not (is_substance t code) ≡ false) (map (λ held. held.substance) m.substances)) (λ m. list_all (λ held. is_substance t held.substance) m.substances ≡ true)
      (λ m h.
      all_from_each (λ held. is_substance t held.substance) m.substances
      (each_map (λ held. not (is_substance t held.substance) ≡ false) (λ held. is_substance t held.substance ≡ true) (λ held. not-false (is_substance t held.substance)) m.substances
      (each_in_map (λ code. not (is_substance t code) ≡ false) (λ held. held.substance) m.substances h)))
      d.materials
      (each_in_flat_map (λ code. not (is_substance t code) ≡ false) (λ m. map (λ held. held.substance) m.substances) d.materials none)))

  masses_known : masses_exceed t (Declare d) ≡ None → list_all (λ material. not (holds_too_much material.mass material.substances)) (declared_rows d) ≡ true
  unfolding masses_exceed
  masses_known e =
      let none = find-none (λ m. holds_too_much m.mass m.substances) d.materials (unmapped _ (find (λ m. holds_too_much m.mass m.substances) d.materials) e) in
      all_from_each (λ material. not (holds_too_much material.mass material.substances)) (declared_rows d)
      (each_of_map (λ material. not (holds_too_much material.mass material.substances) ≡ true) (row_from d) d.materials
      (each_map (λ m. holds_too_much m.mass m.substances ≡ false) (λ m. not (holds_too_much m.mass m.substances) ≡ true) (λ m. not_from_false (holds_too_much m.mass m.substances)) d.materials none))

  rows' : List MaterialRow
  rows' = with_rows (λ row. row.code) code_cmp (declared_rows d) t.materials

  -- no declared material has a part's code
  parts_apart : name_taken t (Declare d) ≡ None → list_all (λ part. not (is_some (row_of (λ row. row.code) code_cmp part.code rows'))) t.parts ≡ true
  unfolding name_taken rows'
  parts_apart e =
      let none = find-none (λ m. is_part t m.code) d.materials (unmapped _ (find (λ m. is_part t m.code) d.materials) e) in
      all_from_each (λ part. not (is_some (row_of (λ row. row.code) code_cmp part.code rows'))) t.parts
      (each_map (λ part. (is_part t part.code ≡ true) × (not (is_material t part.code) ≡ true)) (λ part. not (is_some (row_of (λ row. row.code) code_cmp part.code rows')) ≡ true)
      (λ part h.
      let others : AllByRecursion (λ row. same_code row.code part.code ≡ false) (declared_rows d) =
      each_of_map (λ row. same_code row.code part.code ≡ false) (row_from d) d.materials
      (each_map (λ m. is_part t m.code ≡ false) (λ m. same_code m.code part.code ≡ false)
      (λ m absent. false_from_ne_true (same_code m.code part.code) (λ same. both_ways (is_part t m.code) absent (subst (λ c. is_part t c ≡ true) (sym (same_code-true m.code part.code same)) h.0)))
      d.materials none) in
      ap (λ o. not (is_some o)) (row_of-with_rows_other (λ row. row.code) code_cmp code_cmp_total part.code (declared_rows d) t.materials others) ∙ h.1)
      t.parts
      (each_both (λ part. is_part t part.code ≡ true) (λ part. not (is_material t part.code) ≡ true) t.parts (each_kept (λ row. row.code) code_cmp code_cmp_total t.parts)
      (each_from_all (λ part. not (is_material t part.code)) t.parts g.apart)))

  pub good-declare : is_edit_in_form (Declare d) ≡ true → IsUnrefused t (Declare d) → IsGood (with_edit_made t (Declare d))
  unfolding with_edit_made is_edit_in_form rows'
  good-declare form u =
      let rows = with_rows (λ row. row.code) code_cmp (declared_rows d) t.materials in
      good-materials t rows g
      (IsByKey-with_rows (λ row. row.code) code_cmp code_cmp_total (declared_rows d) t.materials g.ordered.materials)
      (all_with_rows (λ row. row.code) code_cmp is_material_row (declared_rows d) t.materials (rows_in_form form) g.forms.materials)
      (all_with_rows (λ row. row.code) code_cmp (λ material. list_all (λ held. is_substance t held.substance) material.substances) (declared_rows d) t.materials (substances_known u.unknown_substance) g.names.materials)
      (record {
        substances = λ c kept. kept;
        materials = λ c kept. kept-with_rows (λ row. row.code) code_cmp code_cmp_total c (declared_rows d) t.materials kept;
        parts = λ c kept. kept;
        articles = λ c kept. kept;
        assemblies = λ c kept. kept;
        products = λ c kept. kept;
      })
      (parts_apart u.name_taken)
      (all_with_rows (λ row. row.code) code_cmp (λ material. not (holds_too_much material.mass material.substances)) (declared_rows d) t.materials (masses_known u.masses_exceed) g.masses)
