-- What is kept in sound tables is of its form.
use Rattle.std.proofs.Common.{◌≡◌, ◌≤◌, ℕ, true, ◌&&◌, Some, List, length}
use Rattle.std.proofs.lemmas.Bool.{and_parts}
use Rattle.desk_model.specs.declared.limits.TheConstants.{CONTENT_LIMIT}
use Rattle.desk_model.specs.declared.rows.material.MaterialRow.{MaterialRow}
use Rattle.desk_model.specs.Content.{is_content, is_content_in_form}
use Rattle.desk_model.specs.Forms.{is_material_row}
use Rattle.desk_model.specs.Declaration.{is_declaration_number}
use Rattle.desk_text.specs.Day.{is_day}
use Rattle.desk_model.specs.Lists.{Lists, material_row}
use Rattle.desk_model.specs.Values.{is_code, is_name}
use Rattle.desk_model.proofs.Content.{content_parts, substance_parts}
use Rattle.desk_model.proofs.Elements.{each_from_all}
use Rattle.desk_model.proofs.Kept.{found_each}
use Rattle.desk_history.specs.Sound.{Sound}
use Rattle.desk_history.proofs.SoundClauses.{forms_of}

pub content_of : (row : MaterialRow) → is_material_row row ≡ true → is_content row.mass row.substances row.claims ≡ true
unfolding is_material_row
content_of row h =
    let first = is_code row.code && is_code row.supplier && is_declaration_number row.number && is_day row.day && is_name row.name in
    let outer = and_parts (first && is_content row.mass row.substances row.claims) (is_content_in_form row.substances row.claims) h in
    (and_parts first (is_content row.mass row.substances row.claims) outer.0).1

-- a kept material has no more substances than a material may have
pub kept_content : (t : Lists) → Sound t → (code : List ℕ) (row : MaterialRow) → material_row t code ≡ Some row → length row.substances ≤ CONTENT_LIMIT
kept_content t s code row e =
    let forms = forms_of t s.consistent.in_form in
    let found = found_each (λ row. row.code) (λ row. is_material_row row ≡ true) code t.materials row (each_from_all is_material_row t.materials forms.materials) e in
    (substance_parts row.substances (content_parts row.mass row.substances row.claims (content_of row found.0)).substances).fits
