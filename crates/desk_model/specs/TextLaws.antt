-- Laws of the texts of edits and of the codes of tickets. Each is the contract of a function without a body in
-- `src/text_laws.rt`, so that the check proves it.
use Rattle.std.specs.Prelude.{◌≡◌, ℕ, List, true}
use Rattle.desk_model.specs.declared.edit.Edit.{Edit}
use Rattle.desk_model.specs.declared.edit.Edit.TheVariants.{Declare}
use Rattle.desk_model.specs.Declaration.{Declared, is_declaration_number}
use Rattle.desk_model.specs.EditText.{declared_code, edit_text, sent_code, ticket_code}
use Rattle.desk_model.specs.Forms.{is_edit_in_form}
use Rattle.desk_model.specs.Values.{is_code}

-- two edits in form that have one ticket code and one text are the same edit
abbrev pub TextsTellApart : Type 0
TextsTellApart = (a b : Edit) → is_edit_in_form a ≡ true → is_edit_in_form b ≡ true → ticket_code a ≡ ticket_code b → edit_text a ≡ edit_text b → a ≡ b

-- a ticket's code tells whether it is of a declaration, of which supplier and number, and else which ticket the sender chose
pub record TicketsTellApart : Type 0 where
  pub sorts : (edit : Edit) (declaration : Declared) → ticket_code edit ≡ ticket_code (Declare declaration) → (other : Declared) × (edit ≡ Declare other)
  pub sent : (ticket other : List ℕ) → sent_code ticket ≡ sent_code other → ticket ≡ other
  pub declared : (supplier other : List ℕ) (number more : ℕ) → is_code supplier ≡ true → is_code other ≡ true →
      is_declaration_number number ≡ true → is_declaration_number more ≡ true →
      declared_code supplier number ≡ declared_code other more → (supplier ≡ other) × (number ≡ more)
