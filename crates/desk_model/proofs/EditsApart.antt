-- Edits in form are told apart by ticket code and text.
use Rattle.std.proofs.Common.{◌≡◌, ℕ, ◌<◌, ◌^◌, true, ◌&&◌, List, [], ◌∷◌, ◌++◌, length, sum, arith, refl, sym, ap, ◌∙◌, append_assoc}
use Rattle.std.specs.Prelude.{codes, decimal, nat_le}
use Rattle.std.proofs.lemmas.Bool.{and_parts, leb-true}
use Rattle.desk_text.specs.Code.{code_of}
use Rattle.desk_text.specs.Day.{date_text, is_day}
use Rattle.desk_text.proofs.FieldLemmas.{IsField}
use Rattle.desk_text.proofs.Fields.{AreFields, are_without, code_reader, day_told, front-apart, joined-apart, lacks_in_code, name_reader, number_told}
use Rattle.desk_law.specs.Kind.{kind_code}
use Rattle.desk_law.specs.Rule.{rule_code}
use Rattle.desk_law.proofs.Told.{kind_told, rule_told}
use Rattle.desk_model.specs.declared.edit.Edit.{Edit}
use Rattle.desk_model.specs.declared.edit.Edit.TheVariants.{Substance, Member, Declare, Part, Line, Unline, Product, Exemption, Unexempt, Candidate, Ship, Unship}
use Rattle.desk_model.specs.declared.limits.TheConstants.{COUNT_LIMIT, FIRST_SHIPMENT_YEAR, LAST_SHIPMENT_YEAR, UNITS_LIMIT, WHOLE_FACTOR}
use Rattle.desk_model.specs.Declaration.{Declared, is_declaration_number}
use Rattle.desk_model.specs.EditText.{declaration_fields, declared_code, edit_fields, edit_text, exemption_fields, optional_field, sent_code, sort_word, ticket_code}
use Rattle.desk_model.specs.Forms.{are_units, is_count, is_edit_in_form, is_exemption_row, is_factor, is_optional_cas, is_year}
use Rattle.desk_model.specs.Values.{is_code, is_name}
use Rattle.desk_model.proofs.EditTold.{declaration_told, exemption_told, four_parts, number_small, optional_cas_told, sort_told, three_inside, three_parts, two_inside}

-- numbers in their ranges are small
factor_small : (n : ℕ) → is_factor n ≡ true → n < 2 ^ 64
factor_small n good = omega (arith, leb-true n WHOLE_FACTOR good)

between : (least greatest n : ℕ) → (nat_le least n && nat_le n greatest) ≡ true → greatest < 2 ^ 64 → n < 2 ^ 64
between least greatest n good small = omega (arith, leb-true n greatest (and_parts (nat_le least n) (nat_le n greatest) good).1)

count_small : (n : ℕ) → is_count n ≡ true → n < 2 ^ 64
count_small n good = between 1 COUNT_LIMIT n good (omega arith)

year_small : (n : ℕ) → is_year n ≡ true → n < 2 ^ 64
year_small n good = between FIRST_SHIPMENT_YEAR LAST_SHIPMENT_YEAR n good (omega arith)

units_small : (n : ℕ) → are_units n ≡ true → n < 2 ^ 64
units_small n good = between 1 UNITS_LIMIT n good (omega arith)

-- each field of an edit in form is one
word_field : (word : List ℕ) → is_code word ≡ true → IsField word
word_field = code_reader.field

edit_are : (edit : Edit) → is_edit_in_form edit ≡ true → AreFields (edit_fields edit)
unfolding is_edit_in_form code_of
edit_are (Substance ticket code name cas) good =
    let f = four_parts (is_code ticket) (is_code code) (is_name name) (is_optional_cas cas) good in
    (word_field (codes "substance") refl, (code_reader.field code f.1, (name_reader.field name f.2, (optional_cas_told.field cas f.3, tt))))
edit_are (Member ticket substance rule factor) good =
    let f = three_parts (is_code ticket) (is_code substance) (is_factor factor) good in
    (word_field (codes "member") refl, (code_reader.field substance f.1, (rule_told.field rule tt, (number_told.field factor (factor_small factor f.2), tt))))
edit_are (Declare declaration) good = (word_field (codes "declare") refl, declaration_told.are declaration good)
edit_are (Part ticket code sort name) good =
    let f = three_parts (is_code ticket) (is_code code) (is_name name) good in
    (word_field (codes "part") refl, (code_reader.field code f.1, (sort_told.field sort tt, (name_reader.field name f.2, tt))))
edit_are (Line ticket parent child count) good =
    let f = four_parts (is_code ticket) (is_code parent) (is_code child) (is_count count) good in
    (word_field (codes "line") refl, (code_reader.field parent f.1, (code_reader.field child f.2, (number_told.field count (count_small count f.3), tt))))
edit_are (Unline ticket parent child) good =
    let f = three_parts (is_code ticket) (is_code parent) (is_code child) good in
    (word_field (codes "unline") refl, (code_reader.field parent f.1, (code_reader.field child f.2, tt)))
edit_are (Product ticket part kind) good =
    let f = and_parts (is_code ticket) (is_code part) good in
    (word_field (codes "product") refl, (code_reader.field part f.1, (kind_told.field kind tt, tt)))
edit_are (Exemption ticket exemption) good =
    let f = and_parts (is_code ticket) (is_exemption_row exemption) good in
    (word_field (codes "exemption") refl, exemption_told.are exemption f.1)
edit_are (Unexempt ticket row) good =
    let f = and_parts (is_code ticket) (is_code row) good in
    (word_field (codes "unexempt") refl, (code_reader.field row f.1, tt))
edit_are (Candidate ticket substance day) good =
    let f = three_parts (is_code ticket) (is_code substance) (is_day day) good in
    (word_field (codes "candidate") refl, (code_reader.field substance f.1, (day_told.field day f.2, tt)))
edit_are (Ship ticket product year units) good =
    let f = four_parts (is_code ticket) (is_code product) (is_year year) (are_units units) good in
    (word_field (codes "ship") refl, (code_reader.field product f.1, (number_told.field year (year_small year f.2), (number_told.field units (units_small units f.3), tt))))
edit_are (Unship ticket product year units) good =
    let f = four_parts (is_code ticket) (is_code product) (is_year year) (are_units units) good in
    (word_field (codes "unship") refl, (code_reader.field product f.1, (number_told.field year (year_small year f.2), (number_told.field units (units_small units f.3), tt))))

first_inside : (a b : List ℕ) (r s : List (List ℕ)) → a ∷ r ≡ b ∷ s → r ≡ s
first_inside a b r s e = cc

four_inside : (a b c d e f g h : List ℕ) → a ∷ b ∷ c ∷ d ∷ [] ≡ e ∷ f ∷ g ∷ h ∷ [] → (a ≡ e) × (b ≡ f) × (c ≡ g) × (d ≡ h)
four_inside a b c d e f g h same = (cc, cc, cc, cc)

-- a sender's ticket is told by its code
pub sent_inside : (a b : List ℕ) → sent_code a ≡ sent_code b → a ≡ b
sent_inside a b e = cc

-- the words of edits differ in the sum of their bytes
word_sum : List (List ℕ) → ℕ
word_sum [] = 0
word_sum (word ∷ fields) = sum word

-- edits by their fields
pub fields_apart : (a b : Edit) → is_edit_in_form a ≡ true → is_edit_in_form b ≡ true → ticket_code a ≡ ticket_code b → edit_fields a ≡ edit_fields b → a ≡ b
unfolding is_edit_in_form ticket_code word_sum
fields_apart (Substance t code name cas) (Substance u other_code other_name other_cas) good too k e =
    let f = four_parts (is_code t) (is_code code) (is_name name) (is_optional_cas cas) good in
    let g = four_parts (is_code u) (is_code other_code) (is_name other_name) (is_optional_cas other_cas) too in
    let ticket = sent_inside t u k in
    let same = four_inside (codes "substance") code name (optional_field cas) (codes "substance") other_code other_name (optional_field other_cas) e in
    let number = optional_cas_told.apart cas other_cas f.3 g.3 same.3 in
    λ i. Substance (ticket i) (same.1 i) (same.2 i) (number i)
fields_apart (Member t substance rule factor) (Member u other_substance other_rule other_factor) good too k e =
    let f = three_parts (is_code t) (is_code substance) (is_factor factor) good in
    let g = three_parts (is_code u) (is_code other_substance) (is_factor other_factor) too in
    let ticket = sent_inside t u k in
    let same = four_inside (codes "member") substance (rule_code rule) (decimal factor) (codes "member") other_substance (rule_code other_rule) (decimal other_factor) e in
    let one_rule = rule_told.apart rule other_rule tt tt same.2 in
    let number = number_told.apart factor other_factor (factor_small factor f.2) (factor_small other_factor g.2) same.3 in
    λ i. Member (ticket i) (same.1 i) (one_rule i) (number i)
fields_apart (Declare d) (Declare other) good too k e =
    let same = first_inside (codes "declare") (codes "declare") (declaration_fields d) (declaration_fields other) e in
    let one = declaration_told.apart d other [] [] good too (ap (λ fields. fields ++ []) same) in
    λ i. Declare (one.0 i)
fields_apart (Part t code sort name) (Part u other_code other_sort other_name) good too k e =
    let ticket = sent_inside t u k in
    let same = four_inside (codes "part") code (sort_word sort) name (codes "part") other_code (sort_word other_sort) other_name e in
    let one_sort = sort_told.apart sort other_sort tt tt same.2 in
    λ i. Part (ticket i) (same.1 i) (one_sort i) (same.3 i)
fields_apart (Line t parent child count) (Line u other_parent other_child other_count) good too k e =
    let f = four_parts (is_code t) (is_code parent) (is_code child) (is_count count) good in
    let g = four_parts (is_code u) (is_code other_parent) (is_code other_child) (is_count other_count) too in
    let ticket = sent_inside t u k in
    let same = four_inside (codes "line") parent child (decimal count) (codes "line") other_parent other_child (decimal other_count) e in
    let number = number_told.apart count other_count (count_small count f.3) (count_small other_count g.3) same.3 in
    λ i. Line (ticket i) (same.1 i) (same.2 i) (number i)
fields_apart (Unline t parent child) (Unline u other_parent other_child) good too k e =
    let ticket = sent_inside t u k in
    let same = three_inside (codes "unline") parent child (codes "unline") other_parent other_child [] [] e in
    λ i. Unline (ticket i) (same.1 i) (same.2 i)
fields_apart (Product t part kind) (Product u other_part other_kind) good too k e =
    let ticket = sent_inside t u k in
    let same = three_inside (codes "product") part (kind_code kind) (codes "product") other_part (kind_code other_kind) [] [] e in
    let one_kind = kind_told.apart kind other_kind tt tt same.2 in
    λ i. Product (ticket i) (same.1 i) (one_kind i)
fields_apart (Exemption t row) (Exemption u other) good too k e =
    let f = and_parts (is_code t) (is_exemption_row row) good in
    let g = and_parts (is_code u) (is_exemption_row other) too in
    let ticket = sent_inside t u k in
    let same = first_inside (codes "exemption") (codes "exemption") (exemption_fields row) (exemption_fields other) e in
    let one = exemption_told.apart row other [] [] f.1 g.1 (ap (λ fields. fields ++ []) same) in
    λ i. Exemption (ticket i) (one.0 i)
fields_apart (Unexempt t row) (Unexempt u other) good too k e =
    let ticket = sent_inside t u k in
    let same = two_inside (codes "unexempt") row (codes "unexempt") other [] [] e in
    λ i. Unexempt (ticket i) (same.1 i)
fields_apart (Candidate t substance day) (Candidate u other_substance other_day) good too k e =
    let f = three_parts (is_code t) (is_code substance) (is_day day) good in
    let g = three_parts (is_code u) (is_code other_substance) (is_day other_day) too in
    let ticket = sent_inside t u k in
    let same = three_inside (codes "candidate") substance (date_text day) (codes "candidate") other_substance (date_text other_day) [] [] e in
    let date = day_told.apart day other_day f.2 g.2 same.2 in
    λ i. Candidate (ticket i) (same.1 i) (date i)
fields_apart (Ship t product year units) (Ship u other_product other_year other_units) good too k e =
    let f = four_parts (is_code t) (is_code product) (is_year year) (are_units units) good in
    let g = four_parts (is_code u) (is_code other_product) (is_year other_year) (are_units other_units) too in
    let ticket = sent_inside t u k in
    let same = four_inside (codes "ship") product (decimal year) (decimal units) (codes "ship") other_product (decimal other_year) (decimal other_units) e in
    let one_year = number_told.apart year other_year (year_small year f.2) (year_small other_year g.2) same.2 in
    let number = number_told.apart units other_units (units_small units f.3) (units_small other_units g.3) same.3 in
    λ i. Ship (ticket i) (same.1 i) (one_year i) (number i)
fields_apart (Unship t product year units) (Unship u other_product other_year other_units) good too k e =
    let f = four_parts (is_code t) (is_code product) (is_year year) (are_units units) good in
    let g = four_parts (is_code u) (is_code other_product) (is_year other_year) (are_units other_units) too in
    let ticket = sent_inside t u k in
    let same = four_inside (codes "unship") product (decimal year) (decimal units) (codes "unship") other_product (decimal other_year) (decimal other_units) e in
    let one_year = number_told.apart year other_year (year_small year f.2) (year_small other_year g.2) same.2 in
    let number = number_told.apart units other_units (units_small units f.3) (units_small other_units g.3) same.3 in
    λ i. Unship (ticket i) (same.1 i) (one_year i) (number i)
fields_apart a b good too k e = absurd (omega (arith, ap word_sum e))

-- each has a word
has_word : (edit : Edit) → 0 < length (edit_fields edit)
has_word (Substance ticket code name cas) = omega arith
has_word edit = omega arith

-- edits by their texts
pub texts_apart : (a b : Edit) → is_edit_in_form a ≡ true → is_edit_in_form b ≡ true → ticket_code a ≡ ticket_code b → edit_text a ≡ edit_text b → a ≡ b
unfolding edit_text
texts_apart a b good too k e =
    fields_apart a b good too k
    (joined-apart 9 (edit_fields a) (edit_fields b) (has_word a) (has_word b) (are_without 9 (omega arith) (edit_fields a) (edit_are a good)) (are_without 9 (omega arith) (edit_fields b) (edit_are b too)) e)

-- the code of a declaration's ticket is that of no other edit
code_first : List ℕ → ℕ
code_first [] = 0
code_first (b ∷ bytes) = b

pub declares : (edit : Edit) (d : Declared) → ticket_code edit ≡ ticket_code (Declare d) → (other : Declared) × (edit ≡ Declare other)
unfolding ticket_code code_first
declares (Declare other) d e = (other, refl)
declares edit d e = absurd (omega (arith, ap code_first e))

-- and it tells supplier and number, since a supplier's code has no colon
pub declared_apart : (supplier other : List ℕ) (number more : ℕ) → is_code supplier ≡ true → is_code other ≡ true → is_declaration_number number ≡ true → is_declaration_number more ≡ true → declared_code supplier number ≡ declared_code other more → (supplier ≡ other) × (number ≡ more)
declared_apart supplier other number more good too fits fit e =
    let behind = two_bytes 68 58 ((supplier ++ (58 ∷ [])) ++ decimal number) ((other ++ (58 ∷ [])) ++ decimal more) e in
    let same : supplier ++ (58 ∷ decimal number) ≡ other ++ (58 ∷ decimal more) =
    sym (append_assoc supplier (58 ∷ []) (decimal number)) ∙ behind ∙ append_assoc other (58 ∷ []) (decimal more) in
    let parts = front-apart 58 supplier other (decimal number) (decimal more) (lacks_in_code 58 refl supplier (code_reader.back supplier good)) (lacks_in_code 58 refl other (code_reader.back other too)) same in
    (parts.0, number_told.apart number more (number_small number fits) (number_small more fit) parts.1)
  where
    two_bytes : (a b : ℕ) (r s : List ℕ) → a ∷ b ∷ r ≡ a ∷ b ∷ s → r ≡ s
    two_bytes a b r s same = cc
