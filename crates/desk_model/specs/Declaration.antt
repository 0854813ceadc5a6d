-- What a supplier declares of its materials.
use Rattle.std.specs.Prelude.{ℕ, ◌^◌, Bool, ◌&&◌, List, length, map, nat_le, nat_lt}
use Rattle.std.specs.List.{list_all}
use Rattle.desk_text.specs.Code.{code_cmp}
use Rattle.desk_text.specs.Day.{Date, is_day}
use Rattle.desk_model.specs.declared.material_decl.MaterialDecl.{MaterialDecl}
use Rattle.desk_model.specs.declared.limits.TheConstants.{DECLARED_LIMIT}
use Rattle.desk_model.specs.Content.{is_content, is_content_in_form, rises}
use Rattle.desk_model.specs.Values.{is_code, is_name}

-- a declaration: its supplier, its number, its day and its materials
pub record Declared : Type 0 where
  pub supplier : List ℕ
  pub number : ℕ
  pub day : Date
  pub materials : List MaterialDecl

-- a declaration's number is at least 1, and its materials stand in order of code, each once, no more than a declaration
-- may have, each with what it holds in range
abbrev pub is_declaration : Declared → Bool
is_declaration d =
    nat_le 1 d.number
    && nat_le (length d.materials) DECLARED_LIMIT
    && rises code_cmp (map (λ material. material.code) d.materials)
    && list_all (λ material. is_content material.mass material.substances material.claims) d.materials

-- the number is one that a declaration can have: from 1 to 2^64 - 1
abbrev pub is_declaration_number : ℕ → Bool
is_declaration_number n = nat_le 1 n && nat_lt n (2 ^ 64)

-- the texts of a declared material are of their form
abbrev pub is_material_in_form : MaterialDecl → Bool
is_material_in_form m = is_code m.code && is_name m.name && is_content_in_form m.substances m.claims

-- the values of a declaration are of their form and in their range
unfoldable pub is_declaration_in_form : Declared → Bool
is_declaration_in_form d =
    is_code d.supplier && is_declaration_number d.number && is_day d.day && is_declaration d && list_all is_material_in_form d.materials
