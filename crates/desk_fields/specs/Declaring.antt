-- How a declaration is made of its materials, one after the other. No clause of a public call speaks of these words.
use Rattle.std.specs.Prelude.{ℕ, List, [], ◌∷◌, Result, Ok, Err}
use Rattle.desk_law.specs.declared.claim.Claim.{Claim}
use Rattle.desk_model.specs.declared.decl_error.DeclError.{DeclError}
use Rattle.desk_model.specs.declared.decl_error.DeclError.TheVariants as error
use Rattle.desk_model.specs.declared.material_decl.MaterialDecl.{MaterialDecl}
use Rattle.desk_model.specs.declared.substance_mass.SubstanceMass.{SubstanceMass}
use Rattle.desk_model.specs.Declaration.{Declared}
use Rattle.desk_model.specs.Declaring.{claim_added, empty_material, material_added, substance_added}
use Rattle.desk_fields.specs.declared.declaration.Listed.{Listed}
use Rattle.desk_fields.specs.declared.field_fault.FieldFault.{FieldFault}
use Rattle.desk_fields.specs.declared.field_fault.FieldFault.TheVariants as fault

-- what a declaration's fields say, as the declaration that they make
abbrev pub declared_by : Listed → Declared
declared_by listed = record { supplier = listed.supplier; number = listed.number; day = listed.day; materials = listed.materials.items }

-- what comes after an answer that is no error
abbrev pub next : Result Declared DeclError → (Declared → Result Declared DeclError) → Result Declared DeclError
next (Ok d) f = f d
next (Err e) f = Err e

-- the declaration with these substances more in a material
abbrev pub substances_added : List ℕ → List SubstanceMass → Declared → Result Declared DeclError
substances_added code [] d = Ok d
substances_added code (one ∷ held) d = next (substance_added code one d) (substances_added code held)

-- the declaration with these claims more for a material
abbrev pub claims_added : List ℕ → List Claim → Declared → Result Declared DeclError
claims_added code [] d = Ok d
claims_added code (claim ∷ claims) d = next (claim_added code claim d) (claims_added code claims)

-- the declaration with one more material and all that it holds
unfoldable pub material_entered : MaterialDecl → Declared → Result Declared DeclError
material_entered m d =
    next (material_added (empty_material m.code m.name m.mass) d) (λ e. next (substances_added m.code m.substances e) (claims_added m.code m.claims))

-- the declaration with these materials more
abbrev pub materials_entered : List MaterialDecl → Declared → Result Declared DeclError
materials_entered [] d = Ok d
materials_entered (m ∷ ms) d = next (material_entered m d) (materials_entered ms)

-- the fault of fields of which no declaration is made
abbrev pub declaring_fault : DeclError → FieldFault
declaring_fault error.OutOfMemory = fault.OutOfMemory
declaring_fault _ = fault.Shape
