-- The text of an edit, by which two edits are the same, and the code of its ticket.
use Rattle.std.specs.Prelude.{ℕ, Bool, List, [], ◌∷◌, ◌++◌, Option, Some, None, codes, decimal, find, length}
use Rattle.std.specs.Cmp.Lexicographic.{slice_cmp}
use Rattle.std.specs.List.{flat_map, join_with_byte}
use Rattle.std.specs.Option.{unwrap_or}
use Rattle.std.specs.Ordering.{eq_by_cmp, nat_cmp}
use Rattle.std.specs.Str.{bytes_eq}
use Rattle.desk_text.specs.Day.{date_text}
use Rattle.desk_law.specs.declared.claim.Claim.{Claim}
use Rattle.desk_law.specs.Annex.{annex_number}
use Rattle.desk_law.specs.Kind.{kind_code}
use Rattle.desk_law.specs.KindSet.{kinds_text}
use Rattle.desk_law.specs.Rule.{rule_code}
use Rattle.desk_model.specs.declared.edit.Edit.{Edit}
use Rattle.desk_model.specs.declared.edit.Edit.TheVariants.{Substance, Member, Declare, Part, Line, Unline, Product}
use Rattle.desk_model.specs.declared.edit.Edit.TheVariants.{Exemption, Unexempt, Candidate, Ship, Unship}
use Rattle.desk_model.specs.declared.edit_word.EditWord.TheVariants as word
use Rattle.desk_model.specs.declared.material_decl.MaterialDecl.{MaterialDecl}
use Rattle.desk_model.specs.declared.part_sort.PartSort.{PartSort}
use Rattle.desk_model.specs.declared.part_sort.PartSort.TheVariants.{Article, Assembly}
use Rattle.desk_model.specs.declared.rows.exemption.ExemptionRow.{ExemptionRow}
use Rattle.desk_model.specs.declared.substance_mass.SubstanceMass.{SubstanceMass}
use Rattle.desk_model.specs.Declaration.{Declared}
use Rattle.desk_model.specs.EditWords.{word_text}

-- fields joined by TAB
abbrev pub joined : List (List ℕ) → List ℕ
joined fields = join_with_byte 9 fields

-- each field behind a TAB
abbrev pub tabbed : List (List ℕ) → List ℕ
tabbed fields = flat_map (λ field. 9 ∷ field) fields

-- the field of a text that may be absent: it is empty then
abbrev pub optional_field : Option (List ℕ) → List ℕ
optional_field text = unwrap_or text []

-- the field of a number that may be absent: it is empty then
abbrev pub optional_number : Option ℕ → List ℕ
optional_number None = []
optional_number (Some n) = decimal n

-- the word of a sort of part
abbrev pub sort_word : PartSort → List ℕ
sort_word Article = codes "article"
sort_word Assembly = codes "assembly"

-- the sort of part whose word a text is, if it is one
unfoldable pub sort_of : List ℕ → Option PartSort
sort_of text = find (λ sort. bytes_eq (sort_word sort) text) (Article ∷ Assembly ∷ [])

-- the fields of a list of substances: how many there are, and then code and mass of each
abbrev pub substance_fields : List SubstanceMass → List (List ℕ)
substance_fields held = decimal (length held) ∷ flat_map (λ one. one.substance ∷ decimal one.mass ∷ []) held

-- the fields of a list of claims: how many there are, and then rule and exemption number of each
abbrev pub claim_fields : List Claim → List (List ℕ)
claim_fields claims = decimal (length claims) ∷ flat_map (λ claim. rule_code claim.rule ∷ claim.number ∷ []) claims

-- the fields of a declared material: code, name and mass, then its substances and claims
abbrev pub material_fields : MaterialDecl → List (List ℕ)
material_fields m = m.code ∷ m.name ∷ decimal m.mass ∷ (substance_fields m.substances ++ claim_fields m.claims)

-- the fields of a declaration: supplier, number and day, how many materials there are, then each of them
abbrev pub declaration_fields : Declared → List (List ℕ)
declaration_fields d =
    d.supplier ∷ decimal d.number ∷ date_text d.day ∷ decimal (length d.materials) ∷ flat_map material_fields d.materials

-- the fields of an exemption row: its code, annex, number, rule, kinds, first and last day, floor, cap and application
abbrev pub exemption_fields : ExemptionRow → List (List ℕ)
exemption_fields row =
    row.terms.row
    ∷ decimal (annex_number row.terms.annex)
    ∷ row.terms.number
    ∷ rule_code row.terms.rule
    ∷ kinds_text row.terms.kinds
    ∷ date_text row.terms.first
    ∷ date_text row.terms.last
    ∷ optional_number row.terms.floor
    ∷ optional_number row.terms.cap
    ∷ row.application
    ∷ []

-- the fields of an edit: its word, and then its values. The ticket of an edit that is no declaration is no part of its
-- text
abbrev pub edit_fields : Edit → List (List ℕ)
edit_fields (Substance ticket code name cas) = word_text word.Substance ∷ code ∷ name ∷ optional_field cas ∷ []
edit_fields (Member ticket substance rule factor) = word_text word.Member ∷ substance ∷ rule_code rule ∷ decimal factor ∷ []
edit_fields (Declare declaration) = word_text word.Declare ∷ declaration_fields declaration
edit_fields (Part ticket code sort name) = word_text word.Part ∷ code ∷ sort_word sort ∷ name ∷ []
edit_fields (Line ticket parent child count) = word_text word.Line ∷ parent ∷ child ∷ decimal count ∷ []
edit_fields (Unline ticket parent child) = word_text word.Unline ∷ parent ∷ child ∷ []
edit_fields (Product ticket part kind) = word_text word.Product ∷ part ∷ kind_code kind ∷ []
edit_fields (Exemption ticket exemption) = word_text word.Exemption ∷ exemption_fields exemption
edit_fields (Unexempt ticket row) = word_text word.Unexempt ∷ row ∷ []
edit_fields (Candidate ticket substance day) = word_text word.Candidate ∷ substance ∷ date_text day ∷ []
edit_fields (Ship ticket product year units) = word_text word.Ship ∷ product ∷ decimal year ∷ decimal units ∷ []
edit_fields (Unship ticket product year units) = word_text word.Unship ∷ product ∷ decimal year ∷ decimal units ∷ []

-- the text of an edit: its fields joined by TAB
unfoldable pub edit_text : Edit → List ℕ
edit_text edit = joined (edit_fields edit)

-- the two are the same text
abbrev pub same_text : List ℕ → List ℕ → Bool
same_text = eq_by_cmp (slice_cmp nat_cmp)

-- the ticket's code of an edit whose sender chose the ticket
abbrev pub sent_code : List ℕ → List ℕ
sent_code ticket = codes "E:" ++ ticket

-- the ticket's code of a declaration: its supplier and its number
abbrev pub declared_code : List ℕ → ℕ → List ℕ
declared_code supplier number = codes "D:" ++ supplier ++ codes ":" ++ decimal number

-- the code of the ticket of an edit
unfoldable pub ticket_code : Edit → List ℕ
ticket_code (Substance ticket code name cas) = sent_code ticket
ticket_code (Member ticket substance rule factor) = sent_code ticket
ticket_code (Declare declaration) = declared_code declaration.supplier declaration.number
ticket_code (Part ticket code sort name) = sent_code ticket
ticket_code (Line ticket parent child count) = sent_code ticket
ticket_code (Unline ticket parent child) = sent_code ticket
ticket_code (Product ticket part kind) = sent_code ticket
ticket_code (Exemption ticket exemption) = sent_code ticket
ticket_code (Unexempt ticket row) = sent_code ticket
ticket_code (Candidate ticket substance day) = sent_code ticket
ticket_code (Ship ticket product year units) = sent_code ticket
ticket_code (Unship ticket product year units) = sent_code ticket
