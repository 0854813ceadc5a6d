-- The ticket of a code, under which an edit of this code is read.
use Rattle.std.proofs.Common.{◌≡◌, ℕ, true, List, Option, Some, None, Result, Ok, Err, drop, refl, sym, ap, ◌∙◌}
use Rattle.std.specs.Prelude.{codes}
use Rattle.std.specs.Option.{unwrap_or}
use Rattle.std.proofs.lemmas.Bool.{and_parts}
use Rattle.desk_text.specs.Code.{code_of}
use Rattle.desk_model.specs.declared.edit.Edit.{Edit}
use Rattle.desk_model.specs.declared.edit.Edit.TheVariants.{Substance, Member, Declare, Part, Line, Unline, Product, Exemption, Unexempt, Candidate, Ship, Unship}
use Rattle.desk_model.specs.EditText.{edit_text, sent_code, ticket_code}
use Rattle.desk_model.specs.Forms.{are_units, is_count, is_edit_in_form, is_exemption_row, is_factor, is_optional_cas, is_year}
use Rattle.desk_model.specs.Values.{is_code, is_name}
use Rattle.desk_text.specs.Day.{is_day}
use Rattle.desk_model.proofs.EditTold.{four_parts, three_parts}
use Rattle.std.specs.Result.{IsErrAnd}
use Rattle.desk_fields.specs.declared.field_fault.FieldFault.{FieldFault}
use Rattle.desk_fields.specs.declared.field_fault.FieldFault.TheVariants.{Shape, OutOfMemory}
use Rattle.desk_fields.specs.declared.text_fault.TextFault.{TextFault}
use Rattle.desk_fields.specs.declared.text_fault.TextFault.TheVariants.{NotAnEdit}
use Rattle.desk_fields.specs.Faults.{text_fault_of}
use Rattle.desk_fields.specs.EditReading.{edit_of_text, ticket_in}
use Rattle.desk_fields.specs.EditTexts.{IsEditOf, IsEditText}
use Rattle.desk_text.specs.Forms.{a_code}
use Rattle.desk_fields.proofs.Codec.{none_some, some_same}
use Rattle.desk_fields.proofs.EditFields.{read_back, read_exact, with_ticket}
use Rattle.desk_fields.proofs.Values.{code_form}

pub other_good : is_code (codes "D") ≡ true
unfolding code_of
other_good = refl

-- it is a code
pub ticket_good : (code : List ℕ) → is_code (ticket_in code) ≡ true
ticket_good code = by (a_code (drop 2 code)) refl
  where
    by : (o : Option (List ℕ)) → a_code (drop 2 code) ≡ o → is_code (unwrap_or o (codes "D")) ≡ true
    by None is = other_good
    by (Some ticket) is = (code_form.exact (drop 2 code) ticket is).0

-- of the code that a sender's ticket has it is the ticket
sent_ticket : (code ticket : List ℕ) → is_code ticket ≡ true → code ≡ sent_code ticket → ticket_in code ≡ ticket
sent_ticket code ticket good is = ap (λ field. unwrap_or (a_code (drop 2 field)) (codes "D")) is ∙ ap (λ t. unwrap_or t (codes "D")) (code_form.back ticket good)

-- so an edit of this code is under it
same_ticket : (code : List ℕ) (e : Edit) → is_edit_in_form e ≡ true → code ≡ ticket_code e → with_ticket (ticket_in code) e ≡ e
unfolding with_ticket is_edit_in_form ticket_code
same_ticket code (Substance ticket c name cas) good is =
    ap (λ t. Substance t c name cas) (sent_ticket code ticket (four_parts (is_code ticket) (is_code c) (is_name name) (is_optional_cas cas) good).0 is)
same_ticket code (Member ticket substance rule factor) good is =
    ap (λ t. Member t substance rule factor) (sent_ticket code ticket (three_parts (is_code ticket) (is_code substance) (is_factor factor) good).0 is)
same_ticket code (Declare declaration) good is = refl
same_ticket code (Part ticket c sort name) good is =
    ap (λ t. Part t c sort name) (sent_ticket code ticket (three_parts (is_code ticket) (is_code c) (is_name name) good).0 is)
same_ticket code (Line ticket parent child count) good is =
    ap (λ t. Line t parent child count) (sent_ticket code ticket (four_parts (is_code ticket) (is_code parent) (is_code child) (is_count count) good).0 is)
same_ticket code (Unline ticket parent child) good is =
    ap (λ t. Unline t parent child) (sent_ticket code ticket (three_parts (is_code ticket) (is_code parent) (is_code child) good).0 is)
same_ticket code (Product ticket part kind) good is =
    ap (λ t. Product t part kind) (sent_ticket code ticket (and_parts (is_code ticket) (is_code part) good).0 is)
same_ticket code (Exemption ticket exemption) good is =
    ap (λ t. Exemption t exemption) (sent_ticket code ticket (and_parts (is_code ticket) (is_exemption_row exemption) good).0 is)
same_ticket code (Unexempt ticket row) good is =
    ap (λ t. Unexempt t row) (sent_ticket code ticket (and_parts (is_code ticket) (is_code row) good).0 is)
same_ticket code (Candidate ticket substance day) good is =
    ap (λ t. Candidate t substance day) (sent_ticket code ticket (three_parts (is_code ticket) (is_code substance) (is_day day) good).0 is)
same_ticket code (Ship ticket product year units) good is =
    ap (λ t. Ship t product year units) (sent_ticket code ticket (four_parts (is_code ticket) (is_code product) (is_year year) (are_units units) good).0 is)
same_ticket code (Unship ticket product year units) good is =
    ap (λ t. Unship t product year units) (sent_ticket code ticket (four_parts (is_code ticket) (is_code product) (is_year year) (are_units units) good).0 is)

-- an edit of this code and text is what is read of the text
pub is_read : (code text : List ℕ) (e : Edit) → is_edit_in_form e ≡ true → code ≡ ticket_code e → text ≡ edit_text e → edit_of_text (ticket_in code) text ≡ Some e
is_read code text e good is told =
    ap (edit_of_text (ticket_in code)) told ∙ read_back (ticket_in code) e good ∙ ap (λ x. Some x) (same_ticket code e good is)

-- where nothing is read there is none
pub none_of : {code text ticket : List ℕ} → ticket ≡ ticket_in code → edit_of_text ticket text ≡ None → (e : Edit) → is_edit_in_form e ≡ true → code ≡ ticket_code e → text ≡ edit_text e → ⊥
none_of {code = code} {text = text} asked none e good is told =
    none_some e (sym none ∙ ap (λ t. edit_of_text t text) asked ∙ is_read code text e good is told)

-- nor where what is read is of another code
pub other_code : {code text ticket : List ℕ} (x : Edit) → ticket ≡ ticket_in code → edit_of_text ticket text ≡ Some x → (code ≡ ticket_code x → ⊥)
    → (e : Edit) → is_edit_in_form e ≡ true → code ≡ ticket_code e → text ≡ edit_text e → ⊥
other_code {code = code} {text = text} x asked read other e good is told =
    other (is ∙ ap ticket_code (some_same e x (sym (is_read code text e good is told) ∙ ap (λ t. edit_of_text t text) (sym asked) ∙ read)))

-- and what is read of this code is the edit
pub edit_read : {code text ticket : List ℕ} (x : Edit) → ticket ≡ ticket_in code → edit_of_text ticket text ≡ Some x → code ≡ ticket_code x → IsEditOf code text x
edit_read {code = code} {text = text} x asked read is =
    let told = read_exact (ticket_in code) text x (ticket_good code) (ap (λ t. edit_of_text t text) (sym asked) ∙ read) in
    (told.0, is, told.1)

-- whichever the code, a text is an edit's where it is read as one
pub text_read : (text ticket : List ℕ) (x : Edit) → is_code ticket ≡ true → edit_of_text ticket text ≡ Some x → IsEditText text
text_read text ticket x good read = let told = read_exact ticket text x good read in (x, told.0, told.1)

-- and none's where it isn't
pub none_text : (text ticket : List ℕ) → edit_of_text ticket text ≡ None → IsEditText text → ⊥
none_text text ticket none is = none_some (with_ticket ticket is.0) (sym none ∙ ap (edit_of_text ticket) is.2 ∙ read_back ticket is.0 is.1)

-- a fault of the fields that is handed on
pub handed_text : {T : Type 0} (r : Result T TextFault) (fault : FieldFault) → IsErrAnd r (λ e. e ≡ text_fault_of fault) → r ≡ Err NotAnEdit → fault ≡ Shape
handed_text (Ok x) fault is e = absurd is
handed_text {T} (Err f) fault is e = by fault (sym is ∙ inside f e)
  where
    inside : (f : TextFault) → ◌≡◌ {A = Result T TextFault} (Err f) (Err NotAnEdit) → f ≡ NotAnEdit
    inside f e = cc

    by : (fault : FieldFault) → text_fault_of fault ≡ NotAnEdit → fault ≡ Shape
    by Shape e = refl
    by OutOfMemory e = cc
