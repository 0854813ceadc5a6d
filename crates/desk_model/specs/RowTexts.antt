-- The text of a row of any table, apart from the table's number and the row's code.
use Rattle.std.specs.Prelude.{ℕ, List, [], ◌∷◌, ◌++◌, codes, decimal, drop}
use Rattle.desk_text.specs.Day.{date_text}
use Rattle.desk_law.specs.Kind.{kind_code}
use Rattle.desk_model.specs.declared.row.Row.{Row}
use Rattle.desk_model.specs.declared.row.Row.TheVariants.{Substance, Member, Material, Part, Line, Product, Exemption, Candidate, Shipment, Ticket}
use Rattle.desk_model.specs.declared.rows.material.MaterialRow.{MaterialRow}
use Rattle.desk_model.specs.EditText.{claim_fields, exemption_fields, joined, optional_field, sort_word, substance_fields}

-- the version of the texts of rows: their first field
abbrev pub version : List ℕ
version = codes "1"

-- the fields of a material: who declared it, by which number and when, name and mass, then its substances and claims
abbrev pub material_row_fields : MaterialRow → List (List ℕ)
material_row_fields row =
    row.supplier ∷ decimal row.number ∷ date_text row.day ∷ row.name ∷ decimal row.mass ∷ (substance_fields row.substances ++ claim_fields row.claims)

-- the fields of a row behind the version: the values that its code doesn't tell. Those of an exemption are an edit's without the
-- code, and the last of a ticket is the text of its edit
unfoldable pub body_fields : Row → List (List ℕ)
body_fields (Substance row) = row.name ∷ optional_field row.cas ∷ []
body_fields (Member row) = decimal row.factor ∷ []
body_fields (Material row) = material_row_fields row
body_fields (Part row) = sort_word row.sort ∷ row.name ∷ []
body_fields (Line row) = decimal row.count ∷ []
body_fields (Product row) = kind_code row.kind ∷ []
body_fields (Exemption row) = drop 1 (exemption_fields row)
body_fields (Candidate row) = date_text row.day ∷ []
body_fields (Shipment row) = decimal row.units ∷ []
body_fields (Ticket row) = decimal row.number ∷ row.text ∷ []

-- the text of a row: the version and its fields, joined by TAB
unfoldable pub body_text : Row → List ℕ
body_text row = joined (version ∷ body_fields row)
