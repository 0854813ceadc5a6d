-- The rows of sound tables are in form.
use Rattle.std.proofs.Common.{◌≡◌, ℕ, suc, ◌+◌, ◌≤◌, ◌^◌, Bool, true, ◌&&◌, List, [], ◌∷◌, ◌++◌, map, length, nat_le, nat_lt, inl, inr, arith}
use Rattle.std.specs.List.{AllByRecursion, list_all}
use Rattle.std.proofs.lemmas.Bool.{and_from, and_parts, leb-true, lt-ltb}
use Rattle.desk_text.specs.Day.{is_day}
use Rattle.desk_model.specs.declared.edit.Edit.{Edit}
use Rattle.desk_model.specs.declared.edit.Edit.TheVariants as edit
use Rattle.desk_model.specs.declared.limits.TheConstants.{TICKET_LIMIT}
use Rattle.desk_model.specs.declared.row.Row.{Row}
use Rattle.desk_model.specs.declared.row.Row.TheVariants.{Substance, Member, Material, Part, Line, Product, Exemption, Candidate, Shipment, Ticket}
use Rattle.desk_model.specs.declared.rows.ticket.TicketRow.{TicketRow}
use Rattle.desk_model.specs.Declaration.{is_declaration, is_declaration_in_form, is_declaration_number, is_material_in_form}
use Rattle.desk_model.specs.EditText.{ticket_code}
use Rattle.desk_model.specs.Forms.{are_units, is_candidate_row, is_count, is_edit_in_form, is_exemption_row, is_factor, is_line_row, is_material_row, is_member_row, is_optional_cas, is_part_row, is_product_row, is_shipment_row, is_substance_row, is_year}
use Rattle.desk_model.specs.Lists.{Lists}
use Rattle.desk_model.specs.Rows.{rows_of}
use Rattle.desk_model.specs.Values.{is_code, is_name}
use Rattle.desk_model.proofs.EditTold.{three_parts}
use Rattle.desk_model.proofs.Elements.{each_both, each_from_all}
use Rattle.desk_fields.specs.RowTexts.{IsRowInForm, IsTicketCode}
use Rattle.desk_history.specs.Sound.{IsTicketOfEdit, Sound}
use Rattle.desk_history.proofs.SoundClauses.{forms_of}
use Rattle.desk_history.proofs.Numbers.{each_in_range}
use Rattle.desk_model.specs.declared.table_name.TableName.TheVariants.{Tickets}
use Rattle.desk_history.proofs.TableLimits.{within_limit}

first_of_four : (a b c d : Bool) → (a && b && c && d) ≡ true → a ≡ true
first_of_four a b c d h = (three_parts a b c (and_parts (a && b && c) d h).0).0

-- the code of an edit's ticket is a ticket's
code_of_edit : (code : List ℕ) (e : Edit) → is_edit_in_form e ≡ true → code ≡ ticket_code e → IsTicketCode code
unfolding is_edit_in_form is_declaration_in_form ticket_code
code_of_edit code (edit.Substance ticket own name cas) form is = inl (ticket, first_of_four (is_code ticket) (is_code own) (is_name name) (is_optional_cas cas) form, is)
code_of_edit code (edit.Member ticket substance rule factor) form is = inl (ticket, (three_parts (is_code ticket) (is_code substance) (is_factor factor) form).0, is)
code_of_edit code (edit.Declare d) form is =
    let front = is_code d.supplier && is_declaration_number d.number && is_day d.day in
    let parts = three_parts front (is_declaration d) (list_all is_material_in_form d.materials) form in
    let keys = three_parts (is_code d.supplier) (is_declaration_number d.number) (is_day d.day) parts.0 in
    inr (d.supplier, d.number, keys.0, keys.1, is)
code_of_edit code (edit.Part ticket own sort name) form is = inl (ticket, (three_parts (is_code ticket) (is_code own) (is_name name) form).0, is)
code_of_edit code (edit.Line ticket parent child count) form is = inl (ticket, first_of_four (is_code ticket) (is_code parent) (is_code child) (is_count count) form, is)
code_of_edit code (edit.Unline ticket parent child) form is = inl (ticket, (three_parts (is_code ticket) (is_code parent) (is_code child) form).0, is)
code_of_edit code (edit.Product ticket part kind) form is = inl (ticket, (and_parts (is_code ticket) (is_code part) form).0, is)
code_of_edit code (edit.Exemption ticket exemption) form is = inl (ticket, (and_parts (is_code ticket) (is_exemption_row exemption) form).0, is)
code_of_edit code (edit.Unexempt ticket row) form is = inl (ticket, (and_parts (is_code ticket) (is_code row) form).0, is)
code_of_edit code (edit.Candidate ticket substance day) form is = inl (ticket, (three_parts (is_code ticket) (is_code substance) (is_day day) form).0, is)
code_of_edit code (edit.Ship ticket product year units) form is = inl (ticket, first_of_four (is_code ticket) (is_code product) (is_year year) (are_units units) form, is)
code_of_edit code (edit.Unship ticket product year units) form is = inl (ticket, first_of_four (is_code ticket) (is_code product) (is_year year) (are_units units) form, is)

ticket_row : (len : ℕ) → len ≤ TICKET_LIMIT → (row : TicketRow) → IsTicketOfEdit row × ((nat_le 1 row.number && nat_le (suc row.number) (1 + len)) ≡ true) → IsRowInForm (Ticket row)
unfolding IsRowInForm
ticket_row len fits row known =
    let of = known.0 in
    let range = and_parts (nat_le 1 row.number) (nat_le (suc row.number) (1 + len)) known.1 in
    let below : suc row.number ≤ 1 + len = leb-true (suc row.number) (1 + len) range.1 in
    record {
      code = code_of_edit row.code of.0 of.1 of.2;
      number = and_from (nat_le 1 row.number) (nat_lt row.number (2 ^ 64)) range.0 (lt-ltb row.number (2 ^ 64) (omega (arith, below, fits)));
      text = (of.0, of.1, of.3);
    }

behind : (front more : List Row) → AllByRecursion IsRowInForm front → AllByRecursion IsRowInForm more → AllByRecursion IsRowInForm (front ++ more)
behind [] more a b = b
behind (row ∷ front) more a b = (a.0, behind front more a.1 b)

of_table : {R : Type 0} (as_row : R → Row) (P : R → Type 0) → ((row : R) → P row → IsRowInForm (as_row row)) → (rows : List R) → AllByRecursion P rows → AllByRecursion IsRowInForm (map as_row rows)
of_table as_row P form [] p = tt
of_table as_row P form (row ∷ rows) p = (form row p.0, of_table as_row P form rows p.1)

tested : {R : Type 0} (as_row : R → Row) (test : R → Bool) → ((row : R) → test row ≡ true → IsRowInForm (as_row row)) → (rows : List R) → list_all test rows ≡ true → AllByRecursion IsRowInForm (map as_row rows)
tested as_row test form rows all = of_table as_row (λ row. test row ≡ true) form rows (each_from_all test rows all)

pub all_in_form : (t : Lists) → Sound t → AllByRecursion IsRowInForm (rows_of t)
unfolding rows_of IsRowInForm
all_in_form t sound =
    let forms = forms_of t sound.consistent.in_form in
    behind _ (map Ticket t.tickets)
    (behind _ (map Shipment t.shipments)
    (behind _ (map Candidate t.candidates)
    (behind _ (map Exemption t.exemptions)
    (behind _ (map Product t.products)
    (behind _ (map Line t.lines)
    (behind _ (map Part t.parts)
    (behind _ (map Material t.materials)
    (behind (map Substance t.substances) (map Member t.members)
    (tested Substance is_substance_row (λ row is. is) t.substances forms.substances)
    (tested Member is_member_row (λ row is. is) t.members forms.members))
    (tested Material is_material_row (λ row is. is) t.materials forms.materials))
    (tested Part is_part_row (λ row is. is) t.parts forms.parts))
    (tested Line is_line_row (λ row is. is) t.lines forms.lines))
    (tested Product is_product_row (λ row is. is) t.products forms.products))
    (tested Exemption is_exemption_row (λ row is. is) t.exemptions forms.exemptions))
    (tested Candidate is_candidate_row (λ row is. is) t.candidates forms.candidates))
    (tested Shipment is_shipment_row (λ row is. is) t.shipments forms.shipments))
    (of_table Ticket _ (ticket_row (length t.tickets) (within_limit t sound.limits.tables_fit Tickets)) t.tickets
    (each_both IsTicketOfEdit _ t.tickets sound.consistent.tickets_of_edits (each_in_range t.tickets sound.consistent.numbered)))
