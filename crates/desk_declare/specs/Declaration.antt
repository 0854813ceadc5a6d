-- A declaration in rows: a head, then materials, with what they hold and what is claimed for them, each after its material.
-- The first record with a fault decides, and its faults are tried in the order in which `DeclareFault` lists them.
use Rattle.std.specs.Prelude.{ℕ, ◌+◌, Bool, false, ◌&&◌, if◌then◌else◌, List, [], ◌∷◌, codes, Option, None, Some, Result, Ok, Err}
use Rattle.std.specs.List.{list_all}
use Rattle.std.specs.Result.{result_map_both}
use Rattle.std.specs.Str.{bytes_eq, is_utf8}
use Rattle.desk_model.specs.Declaration.{Declared}
use Rattle.desk_model.specs.Declaring.{claim_added, declaration_start, empty_material, material_added, substance_added}
use Rattle.desk_model.specs.declared.decl_error.DeclError.{DeclError}
use Rattle.desk_model.specs.declared.edit.Edit.{Edit}
use Rattle.desk_model.specs.declared.edit.Edit.TheVariants.{Declare}
use Rattle.desk_declare.specs.Columns.{Columns, columns_after, ◌then◌, field_in, row_made_by}
use Rattle.desk_declare.specs.Faults.{unfit}
use Rattle.desk_text.specs.Forms.{a_code, a_day, a_name, an_exemption_number}
use Rattle.desk_declare.specs.Forms.{a_declaration_number, a_mass, a_rule, a_substance_mass}
use Rattle.desk_declare.specs.Rows.{Row, csv_rows_of}
use Rattle.desk_declare.specs.declared.declare_fault.DeclareFault.{DeclareFault}
use Rattle.desk_declare.specs.declared.declare_fault.DeclareFault.TheVariants.{NotText, NoHead, BadField, RepeatedMaterial, RepeatedRow}

-- what a row adds to a declaration, or why it doesn't fit in
abbrev pub Addition : Type 0
Addition = Declared → Result Declared DeclError

-- the columns of the head: `D`, `1`, the supplier, the declaration's number, its day
abbrev pub head_columns : Columns Declared
head_columns = columns_after 2 declaration_start then a_code then a_declaration_number then a_day

-- the columns of a material: `M`, its code, its name, its mass
abbrev pub material_columns : Columns Addition
material_columns = columns_after 1 (λ code name mass. material_added (empty_material code name mass)) then a_code then a_name then a_mass

-- the columns of a substance: `S`, the material that holds it, its code, its mass
abbrev pub substance_columns : Columns Addition
substance_columns =
    columns_after 1 (λ material code mass. substance_added material (record { substance = code; mass = mass }))
    then a_code then a_code then a_substance_mass

-- the columns of a claim of exemption: `E`, the material that it is for, the rule, the exemption's number
abbrev pub claim_columns : Columns Addition
claim_columns =
    columns_after 1 (λ material rule number. claim_added material (record { rule = rule; number = number }))
    then a_code then a_rule then an_exemption_number

-- there is a field, and it is this word
abbrev pub is_word : List ℕ → Option (List ℕ) → Bool
is_word word None = false
is_word word (Some field) = bytes_eq field word

-- what a row is read as whose fields are all text in UTF-8
abbrev pub if_text : ℕ → Row → Result Declared DeclareFault → Result Declared DeclareFault
if_text place row read = if list_all is_utf8 row then read else Err (NotText place)

-- the declaration that the first row begins, all of whose fields are text
abbrev pub begun_by : Row → Result Declared DeclareFault
begun_by row =
    if is_word (codes "D") (field_in 1 row) && is_word (codes "1") (field_in 2 row) then row_made_by head_columns 1 row else Err NoHead

-- the declaration that the first row begins
unfoldable pub head_of : Row → Result Declared DeclareFault
head_of row = if_text 1 row (begun_by row)

-- the declaration with an addition, where it fits in
abbrev pub with_addition : DeclareFault → ℕ → Result Addition DeclareFault → Declared → Result Declared DeclareFault
with_addition repeated place (Err fault) d = Err fault
with_addition repeated place (Ok addition) d = result_map_both (λ new. new) (unfit repeated place) (addition d)

-- the declaration with what a row under the head adds, by the word in its first column, all of whose fields are text
abbrev pub extended_by : ℕ → Row → Declared → Result Declared DeclareFault
extended_by place row d =
    if is_word (codes "M") (field_in 1 row) then with_addition (RepeatedMaterial place) place (row_made_by material_columns place row) d
    else if is_word (codes "S") (field_in 1 row) then with_addition (RepeatedRow place) place (row_made_by substance_columns place row) d
    else if is_word (codes "E") (field_in 1 row) then with_addition (RepeatedRow place) place (row_made_by claim_columns place row) d
    else Err (BadField place 1)

-- the declaration with what a row under the head adds
unfoldable pub row_added : ℕ → Row → Declared → Result Declared DeclareFault
row_added place row d = if_text place row (extended_by place row d)

-- what is read on from a declaration, unless there is a fault already
abbrev pub read_on : (Declared → Result Declared DeclareFault) → Result Declared DeclareFault → Result Declared DeclareFault
read_on further (Err fault) = Err fault
read_on further (Ok d) = further d

-- the declaration with what each of the rows adds, the first of which is the record of this number
abbrev pub rows_added : ℕ → List Row → Declared → Result Declared DeclareFault
rows_added place [] d = Ok d
rows_added place (row ∷ rows) d = read_on (rows_added (place + 1) rows) (row_added place row d)

-- the declaration that rows spell, or the first fault
unfoldable pub declaration_in : List Row → Result Declared DeclareFault
declaration_in [] = Err NoHead
declaration_in (first ∷ rows) = read_on (rows_added 2 rows) (head_of first)

-- the declaration that bytes spell, or their first fault
abbrev pub declared_of : List ℕ → Result Declared DeclareFault
declared_of bytes = declaration_in (csv_rows_of bytes)

-- the edit of the declaration that bytes spell, or their first fault
abbrev pub declaration_of : List ℕ → Result Edit DeclareFault
declaration_of bytes = result_map_both Declare (λ fault. fault) (declared_of bytes)
