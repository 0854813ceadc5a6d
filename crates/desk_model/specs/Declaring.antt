-- How a declaration grows: a material, and then what it holds and what is claimed for it, in any order of the calls.
use Rattle.std.specs.Prelude.{ℕ, List, [], length, nat_lt, Option, None, Some, is_some, Result, Ok, Err, if◌then◌else◌}
use Rattle.std.specs.declared.cmp.Ordering.{Ordering}
use Rattle.desk_text.specs.Code.{code_cmp}
use Rattle.desk_text.specs.Day.{Date}
use Rattle.desk_law.specs.declared.claim.Claim.{Claim}
use Rattle.desk_rows.specs.Rows.{row_of, with_row}
use Rattle.desk_model.specs.declared.decl_error.DeclError.{DeclError}
use Rattle.desk_model.specs.declared.decl_error.DeclError.TheVariants.{Repeated, TooMany, Orphan}
use Rattle.desk_model.specs.declared.limits.TheConstants.{DECLARED_LIMIT, CONTENT_LIMIT, CLAIM_LIMIT}
use Rattle.desk_model.specs.declared.material_decl.MaterialDecl.{MaterialDecl}
use Rattle.desk_model.specs.declared.substance_mass.SubstanceMass.{SubstanceMass}
use Rattle.desk_law.specs.Claim.{claim_cmp}
use Rattle.desk_model.specs.Declaration.{Declared}

-- an answer with what it holds changed; an error stays as it is
abbrev pub and_then : {A B : Type 0} → Result A DeclError → (A → B) → Result B DeclError
and_then (Ok x) f = Ok (f x)
and_then (Err e) f = Err e

module _ {R K : Type 0} (key : R → K) (cmp : K → K → Ordering) where
  -- a list in order of its keys with one more row, or an error where the key is there or the list is full
  abbrev pub with_new : ℕ → R → List R → Result (List R) DeclError
  with_new limit new rows =
      if is_some (row_of key cmp (key new) rows) then Err Repeated
      else (if nat_lt (length rows) limit then Ok (with_row key cmp new rows) else Err TooMany)

-- a declaration without materials
abbrev pub declaration_start : List ℕ → ℕ → Date → Declared
declaration_start supplier number day = record { supplier = supplier; number = number; day = day; materials = [] }

-- a material that holds nothing yet
abbrev pub empty_material : List ℕ → List ℕ → ℕ → MaterialDecl
empty_material code name mass = record { code = code; name = name; mass = mass; substances = []; claims = [] }

-- the declaration with one more material
unfoldable pub material_added : MaterialDecl → Declared → Result Declared DeclError
material_added new d =
    and_then (with_new (λ material. material.code) code_cmp DECLARED_LIMIT new d.materials) (λ all. record d { materials = all })

-- the material that the declaration lists under a code
abbrev pub declared_material : Declared → List ℕ → Option MaterialDecl
declared_material d code = row_of (λ material. material.code) code_cmp code d.materials

-- the declaration with one of its materials changed, where the change is no error
abbrev pub material_changed : (MaterialDecl → Result MaterialDecl DeclError) → Option MaterialDecl → Declared → Result Declared DeclError
material_changed change None d = Err Orphan
material_changed change (Some material) d =
    and_then (change material) (λ new. record d { materials = with_row (λ m. m.code) code_cmp new d.materials })

-- the declaration with one more substance in a material
unfoldable pub substance_added : List ℕ → SubstanceMass → Declared → Result Declared DeclError
substance_added material new d =
    material_changed
    (λ m. and_then (with_new (λ held. held.substance) code_cmp CONTENT_LIMIT new m.substances) (λ all. record m { substances = all }))
    (declared_material d material) d

-- the declaration with one more claim for a material
unfoldable pub claim_added : List ℕ → Claim → Declared → Result Declared DeclError
claim_added material new d =
    material_changed
    (λ m. and_then (with_new (λ claim. claim) claim_cmp CLAIM_LIMIT new m.claims) (λ all. record m { claims = all }))
    (declared_material d material) d
