-- The form of a row's values, and which row has a number of a table, a code and a text.
use Rattle.std.specs.Prelude.{◌≡◌, ◌⊎◌, ◌||◌, ◌==◌, ℕ, Bool, true, List, ◌∷◌}
use Rattle.desk_model.specs.declared.row.Row.{Row}
use Rattle.desk_model.specs.declared.row.Row.TheVariants.{Substance, Member, Material, Part, Line, Product, Exemption, Candidate, Shipment, Ticket}
use Rattle.desk_model.specs.declared.rows.ticket.TicketRow.{TicketRow}
use Rattle.desk_model.specs.Declaration.{is_declaration_number}
use Rattle.desk_model.specs.EditText.{declared_code, sent_code}
use Rattle.desk_model.specs.Forms.{is_candidate_row, is_exemption_row, is_line_row, is_material_row, is_member_row}
use Rattle.desk_model.specs.Forms.{is_part_row, is_product_row, is_shipment_row, is_substance_row}
use Rattle.desk_model.specs.Rows.{record_code, table_number}
use Rattle.desk_model.specs.RowTexts.{body_text, version}
use Rattle.desk_model.specs.Values.{is_code}
use Rattle.desk_fields.specs.EditTexts.{IsEditText}
use Rattle.desk_fields.specs.Reading.{fields_of}

-- the code is that of a ticket: of a sender's, or of a declaration's supplier and number
abbrev pub IsTicketCode : List ℕ → Type 0
IsTicketCode code =
    ((ticket : List ℕ) × (is_code ticket ≡ true) × (code ≡ sent_code ticket))
    ⊎ ((supplier : List ℕ) × (number : ℕ) × (is_code supplier ≡ true) × (is_declaration_number number ≡ true) × (code ≡ declared_code supplier number))

-- a ticket has the code of one, a number from 1 to 2^64 - 1 as declarations have, and the text of some edit
pub record IsTicketRow (row : TicketRow) : Type 0 where
  pub code : IsTicketCode row.code
  pub number : is_declaration_number row.number ≡ true
  pub text : IsEditText row.text

-- the values of a row are of their form and in their range
unfoldable pub IsRowInForm : Row → Type 0
IsRowInForm (Substance row) = is_substance_row row ≡ true
IsRowInForm (Member row) = is_member_row row ≡ true
IsRowInForm (Material row) = is_material_row row ≡ true
IsRowInForm (Part row) = is_part_row row ≡ true
IsRowInForm (Line row) = is_line_row row ≡ true
IsRowInForm (Product row) = is_product_row row ≡ true
IsRowInForm (Exemption row) = is_exemption_row row ≡ true
IsRowInForm (Candidate row) = is_candidate_row row ≡ true
IsRowInForm (Shipment row) = is_shipment_row row ≡ true
IsRowInForm (Ticket row) = IsTicketRow row

-- the row is in form, and has this table's number, this code and this text
pub record IsRowOf (table : ℕ) (code body : List ℕ) (row : Row) : Type 0 where
  pub form : IsRowInForm row
  pub of_table : table ≡ table_number row
  pub has_code : code ≡ record_code row
  pub has_body : body ≡ body_text row

-- rows of the table hold texts or lists, for which memory is taken as they are read: names, what a material holds, the text of an edit
unfoldable pub has_texts : ℕ → Bool
has_texts table = (table == 1) || (table == 3) || (table == 4) || (table == 7) || (table == 10)

-- the first field of a text is the version
abbrev pub HasVersion : List ℕ → Type 0
HasVersion body = (fields : List (List ℕ)) × (fields_of body ≡ version ∷ fields)
