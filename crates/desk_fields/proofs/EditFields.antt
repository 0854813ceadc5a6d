-- An edit in form is read from its text, and what is read is the edit of that text.
use Rattle.std.proofs.Common.{◌≡◌, ℕ, true, List, [], ◌∷◌, ◌++◌, Option, Some, None, option_and_then, refl, sym, ap, subst, ◌∙◌, arith}
use Rattle.std.specs.Prelude.{◌==◌, codes, decimal, nat_le}
use Rattle.std.specs.List.{join_with_byte, slice_split}
use Rattle.std.proofs.lemmas.Bool.{and_from, and_parts, le-leb}
use Rattle.std.proofs.lemmas.List.{append-nil}
use Rattle.std.proofs.lemmas.List.Splits.{join_with_byte-slice_split}
use Rattle.desk_text.specs.Day.{date_text, is_day}
use Rattle.desk_text.proofs.Fields.{AreFields, are_without, split-joined}
use Rattle.desk_law.specs.Kind.{kind_code, kind_of}
use Rattle.desk_law.specs.Rule.{rule_code, rule_of}
use Rattle.desk_model.specs.declared.edit.Edit.{Edit}
use Rattle.desk_model.specs.declared.edit.Edit.TheVariants.{Substance, Member, Declare, Part, Line, Unline, Product, Exemption, Unexempt, Candidate, Ship, Unship}
use Rattle.desk_model.specs.declared.limits.TheConstants.{COUNT_LIMIT, FIRST_SHIPMENT_YEAR, LAST_SHIPMENT_YEAR, UNITS_LIMIT, WHOLE_FACTOR}
use Rattle.desk_model.specs.EditText.{edit_fields, edit_text, optional_field, sort_of, sort_word}
use Rattle.desk_model.specs.EditWords.{edit_word_of, word_text}
use Rattle.desk_model.specs.Forms.{are_units, is_count, is_edit_in_form, is_exemption_row, is_factor, is_optional_cas, is_year}
use Rattle.desk_model.specs.Values.{is_code, is_name}
use Rattle.desk_model.proofs.EditTold.{four_parts, three_parts}
use Rattle.desk_model.specs.declared.edit_word.EditWord.{EditWord}
use Rattle.desk_model.specs.declared.edit_word.EditWord.TheVariants as word
use Rattle.desk_fields.specs.EditReading.{edit_reader_of_word, edit_reader, edit_of_text}
use Rattle.desk_text.specs.Forms.{a_cas, a_code, a_day, a_name, a_number}
use Rattle.desk_fields.specs.Forms.{maybe}
use Rattle.desk_fields.specs.Reading.{Reader, both, ended, fields_of, built_of, one, three, two, all_fields}
use Rattle.desk_fields.proofs.Codec.{IsCodec, both_codec, made_of, making, none_some, one_codec, some_same, with_rest}
use Rattle.desk_fields.proofs.Declared.{Within, code_codec, day_codec, declared_codec, exemption_codec, name_codec, number_codec, rule_codec}
use Rattle.desk_fields.proofs.Values.{kind_form, optional_cas_form, sort_form, word_form}

-- the edit under another ticket; a declaration has none
unfoldable pub with_ticket : List ℕ → Edit → Edit
with_ticket t (Substance ticket code name cas) = Substance t code name cas
with_ticket t (Member ticket substance rule factor) = Member t substance rule factor
with_ticket t (Declare declaration) = Declare declaration
with_ticket t (Part ticket code sort name) = Part t code sort name
with_ticket t (Line ticket parent child count) = Line t parent child count
with_ticket t (Unline ticket parent child) = Unline t parent child
with_ticket t (Product ticket part kind) = Product t part kind
with_ticket t (Exemption ticket exemption) = Exemption t exemption
with_ticket t (Unexempt ticket row) = Unexempt t row
with_ticket t (Candidate ticket substance day) = Candidate t substance day
with_ticket t (Ship ticket product year units) = Ship t product year units
with_ticket t (Unship ticket product year units) = Unship t product year units

abbrev pub substance_codec : IsCodec (both (one a_code) (both (one a_name) (one (maybe a_cas)))) (λ x. (x.0 ∷ []) ++ ((x.1.0 ∷ []) ++ (optional_field x.1.1 ∷ []))) (λ x. (is_code x.0 ≡ true) × ((is_name x.1.0 ≡ true) × (is_optional_cas x.1.1 ≡ true)))
substance_codec = both_codec _ _ _ _ _ _ code_codec (both_codec _ _ _ _ _ _ name_codec (one_codec _ _ _ optional_cas_form))

abbrev member_codec : IsCodec (both (one a_code) (both (one rule_of) (one (a_number 0 WHOLE_FACTOR)))) (λ x. (x.0 ∷ []) ++ ((rule_code x.1.0 ∷ []) ++ (decimal x.1.1 ∷ []))) (λ x. (is_code x.0 ≡ true) × (Unit {0} × Within 0 WHOLE_FACTOR x.1.1))
member_codec = both_codec _ _ _ _ _ _ code_codec (both_codec _ _ _ _ _ _ rule_codec (number_codec 0 WHOLE_FACTOR (omega arith)))

abbrev pub part_codec : IsCodec (both (one a_code) (both (one sort_of) (one a_name))) (λ x. (x.0 ∷ []) ++ ((sort_word x.1.0 ∷ []) ++ (x.1.1 ∷ []))) (λ x. (is_code x.0 ≡ true) × (Unit {0} × (is_name x.1.1 ≡ true)))
part_codec = both_codec _ _ _ _ _ _ code_codec (both_codec _ _ _ _ _ _ (one_codec _ _ _ sort_form) name_codec)

abbrev pub line_codec : IsCodec (both (one a_code) (both (one a_code) (one (a_number 1 COUNT_LIMIT)))) (λ x. (x.0 ∷ []) ++ ((x.1.0 ∷ []) ++ (decimal x.1.1 ∷ []))) (λ x. (is_code x.0 ≡ true) × ((is_code x.1.0 ≡ true) × Within 1 COUNT_LIMIT x.1.1))
line_codec = both_codec _ _ _ _ _ _ code_codec (both_codec _ _ _ _ _ _ code_codec (number_codec 1 COUNT_LIMIT (omega arith)))

abbrev unline_codec : IsCodec (both (one a_code) (one a_code)) (λ x. (x.0 ∷ []) ++ (x.1 ∷ [])) (λ x. (is_code x.0 ≡ true) × (is_code x.1 ≡ true))
unline_codec = both_codec _ _ _ _ _ _ code_codec code_codec

abbrev pub product_codec : IsCodec (both (one a_code) (one kind_of)) (λ x. (x.0 ∷ []) ++ (kind_code x.1 ∷ [])) (λ x. (is_code x.0 ≡ true) × Unit {0})
product_codec = both_codec _ _ _ _ _ _ code_codec (one_codec _ _ _ kind_form)

abbrev pub candidate_codec : IsCodec (both (one a_code) (one a_day)) (λ x. (x.0 ∷ []) ++ (date_text x.1 ∷ [])) (λ x. (is_code x.0 ≡ true) × (is_day x.1 ≡ true))
candidate_codec = both_codec _ _ _ _ _ _ code_codec day_codec

abbrev shipment_codec : IsCodec (both (one a_code) (both (one (a_number FIRST_SHIPMENT_YEAR LAST_SHIPMENT_YEAR)) (one (a_number 1 UNITS_LIMIT)))) (λ x. (x.0 ∷ []) ++ ((decimal x.1.0 ∷ []) ++ (decimal x.1.1 ∷ [])))
    (λ x. (is_code x.0 ≡ true) × (Within FIRST_SHIPMENT_YEAR LAST_SHIPMENT_YEAR x.1.0 × Within 1 UNITS_LIMIT x.1.1))
shipment_codec = both_codec _ _ _ _ _ _ code_codec (both_codec _ _ _ _ _ _ (number_codec FIRST_SHIPMENT_YEAR LAST_SHIPMENT_YEAR (omega arith)) (number_codec 1 UNITS_LIMIT (omega arith)))

-- what was read behind a word is an edit in form with these fields
abbrev IsRead : List ℕ → EditWord → List (List ℕ) → List (List ℕ) → Edit → Type 0
IsRead t w all rest e = (is_edit_in_form e ≡ true) × (word_text w ∷ all ≡ edit_fields e ++ rest)

-- a value that a codec reads, made of what was read
made_read : {A B : Type 0} {read : Reader A} {f : A → List (List ℕ)} {P : A → Type 0} → IsCodec read f P → (make : A → B) (all rest : List (List ℕ)) (b : B) → built_of make read all ≡ Some (b, rest)
    → (a : A) × (P a) × (all ≡ f a ++ rest) × (make a ≡ b)
made_read {read = read} c make all rest b h =
    let of = made_of make read all rest b h in
    let told = c.exact all rest of.0 of.1 in
    (of.0, told.0, told.1, of.2)

module _ (t : List ℕ) (good : is_code t ≡ true) (all rest : List (List ℕ)) where
  pub by_word : (w : EditWord) (e : Edit) → edit_reader_of_word t w all ≡ Some (e, rest) → IsRead t w all rest e
  unfolding edit_reader_of_word is_edit_in_form
  by_word word.Substance e h =
      let r = made_read substance_codec (three (Substance t)) all rest e h in
      subst (IsRead t word.Substance all rest) r.3 (and_from _ _ (and_from _ _ (and_from _ _ good r.1.0) r.1.1.0) r.1.1.1, ap (λ fields. codes "substance" ∷ fields) r.2)
  by_word word.Member e h =
      let r = made_read member_codec (three (Member t)) all rest e h in
      subst (IsRead t word.Member all rest) r.3 (and_from _ _ (and_from _ _ good r.1.0) (and_parts _ _ r.1.1.1).1, ap (λ fields. codes "member" ∷ fields) r.2)
  by_word word.Declare e h =
      let r = made_read declared_codec Declare all rest e h in
      subst (IsRead t word.Declare all rest) r.3 (r.1, ap (λ fields. codes "declare" ∷ fields) r.2)
  by_word word.Part e h =
      let r = made_read part_codec (three (Part t)) all rest e h in
      subst (IsRead t word.Part all rest) r.3 (and_from _ _ (and_from _ _ good r.1.0) r.1.1.1, ap (λ fields. codes "part" ∷ fields) r.2)
  by_word word.Line e h =
      let r = made_read line_codec (three (Line t)) all rest e h in
      subst (IsRead t word.Line all rest) r.3 (and_from _ _ (and_from _ _ (and_from _ _ good r.1.0) r.1.1.0) r.1.1.1, ap (λ fields. codes "line" ∷ fields) r.2)
  by_word word.Unline e h =
      let r = made_read unline_codec (two (Unline t)) all rest e h in
      subst (IsRead t word.Unline all rest) r.3 (and_from _ _ (and_from _ _ good r.1.0) r.1.1, ap (λ fields. codes "unline" ∷ fields) r.2)
  by_word word.Product e h =
      let r = made_read product_codec (two (Product t)) all rest e h in
      subst (IsRead t word.Product all rest) r.3 (and_from _ _ good r.1.0, ap (λ fields. codes "product" ∷ fields) r.2)
  by_word word.Exemption e h =
      let r = made_read exemption_codec (Exemption t) all rest e h in
      subst (IsRead t word.Exemption all rest) r.3 (and_from _ _ good r.1, ap (λ fields. codes "exemption" ∷ fields) r.2)
  by_word word.Unexempt e h =
      let r = made_read code_codec (Unexempt t) all rest e h in
      subst (IsRead t word.Unexempt all rest) r.3 (and_from _ _ good r.1, ap (λ fields. codes "unexempt" ∷ fields) r.2)
  by_word word.Candidate e h =
      let r = made_read candidate_codec (two (Candidate t)) all rest e h in
      subst (IsRead t word.Candidate all rest) r.3 (and_from _ _ (and_from _ _ good r.1.0) r.1.1, ap (λ fields. codes "candidate" ∷ fields) r.2)
  by_word word.Ship e h =
      let r = made_read shipment_codec (three (Ship t)) all rest e h in
      subst (IsRead t word.Ship all rest) r.3 (and_from _ _ (and_from _ _ (and_from _ _ good r.1.0) r.1.1.0) r.1.1.1, ap (λ fields. codes "ship" ∷ fields) r.2)
  by_word word.Unship e h =
      let r = made_read shipment_codec (three (Unship t)) all rest e h in
      subst (IsRead t word.Unship all rest) r.3 (and_from _ _ (and_from _ _ (and_from _ _ good r.1.0) r.1.1.0) r.1.1.1, ap (λ fields. codes "unship" ∷ fields) r.2)

-- the fields of an edit in form are read as the edit, under the ticket that is given
pub record Found (t : List ℕ) (rest : List (List ℕ)) (e : Edit) : Type 0 where
  pub w : EditWord
  pub fields : List (List ℕ)
  pub same : edit_fields e ≡ word_text w ∷ fields
  pub read : edit_reader_of_word t w (fields ++ rest) ≡ Some (with_ticket t e, rest)
  pub are : AreFields fields

found : {A : Type 0} {reader : Reader A} {f : A → List (List ℕ)} {P : A → Type 0} → IsCodec reader f P → (t : List ℕ) (word_ : EditWord) (make : A → Edit) (e : Edit) (a : A) (rest : List (List ℕ)) → P a
    → edit_fields e ≡ word_text word_ ∷ f a → with_ticket t e ≡ make a → ((all : List (List ℕ)) → edit_reader_of_word t word_ all ≡ built_of make reader all) → Found t rest e
found {f = f} c t word_ make e a rest is same is_made by = record {
  w = word_;
  fields = f a;
  same = same;
  read = by (f a ++ rest) ∙ ap (making make) (c.back a rest is) ∙ ap (λ x. Some (x, rest)) (sym is_made);
  are = c.are a is;
}

pub to_word : (t : List ℕ) (rest : List (List ℕ)) (e : Edit) → is_edit_in_form e ≡ true → Found t rest e
unfolding edit_reader_of_word is_edit_in_form with_ticket
to_word t rest (Substance ticket code name cas) good =
    let f = four_parts (is_code ticket) (is_code code) (is_name name) (is_optional_cas cas) good in
    found substance_codec t word.Substance (three (Substance t)) (Substance ticket code name cas) (code, (name, cas)) rest (f.1, (f.2, f.3)) refl refl (λ all. refl)
to_word t rest (Member ticket substance rule factor) good =
    let f = three_parts (is_code ticket) (is_code substance) (is_factor factor) good in
    found member_codec t word.Member (three (Member t)) (Member ticket substance rule factor) (substance, (rule, factor)) rest (f.1, (tt, and_from (nat_le 0 factor) (nat_le factor WHOLE_FACTOR) (le-leb 0 factor (omega arith)) f.2)) refl refl (λ all. refl)
to_word t rest (Declare declaration) good =
    found declared_codec t word.Declare Declare (Declare declaration) declaration rest good refl refl (λ all. refl)
to_word t rest (Part ticket code sort name) good =
    let f = three_parts (is_code ticket) (is_code code) (is_name name) good in
    found part_codec t word.Part (three (Part t)) (Part ticket code sort name) (code, (sort, name)) rest (f.1, (tt, f.2)) refl refl (λ all. refl)
to_word t rest (Line ticket parent child count) good =
    let f = four_parts (is_code ticket) (is_code parent) (is_code child) (is_count count) good in
    found line_codec t word.Line (three (Line t)) (Line ticket parent child count) (parent, (child, count)) rest (f.1, (f.2, f.3)) refl refl (λ all. refl)
to_word t rest (Unline ticket parent child) good =
    let f = three_parts (is_code ticket) (is_code parent) (is_code child) good in
    found unline_codec t word.Unline (two (Unline t)) (Unline ticket parent child) (parent, child) rest (f.1, f.2) refl refl (λ all. refl)
to_word t rest (Product ticket part kind) good =
    let f = and_parts (is_code ticket) (is_code part) good in
    found product_codec t word.Product (two (Product t)) (Product ticket part kind) (part, kind) rest (f.1, tt) refl refl (λ all. refl)
to_word t rest (Exemption ticket exemption) good =
    let f = and_parts (is_code ticket) (is_exemption_row exemption) good in
    found exemption_codec t word.Exemption (Exemption t) (Exemption ticket exemption) exemption rest f.1 refl refl (λ all. refl)
to_word t rest (Unexempt ticket row) good =
    let f = and_parts (is_code ticket) (is_code row) good in
    found code_codec t word.Unexempt (Unexempt t) (Unexempt ticket row) row rest f.1 refl refl (λ all. refl)
to_word t rest (Candidate ticket substance day) good =
    let f = three_parts (is_code ticket) (is_code substance) (is_day day) good in
    found candidate_codec t word.Candidate (two (Candidate t)) (Candidate ticket substance day) (substance, day) rest (f.1, f.2) refl refl (λ all. refl)
to_word t rest (Ship ticket product year units) good =
    let f = four_parts (is_code ticket) (is_code product) (is_year year) (are_units units) good in
    found shipment_codec t word.Ship (three (Ship t)) (Ship ticket product year units) (product, (year, units)) rest (f.1, (f.2, f.3)) refl refl (λ all. refl)
to_word t rest (Unship ticket product year units) good =
    let f = four_parts (is_code ticket) (is_code product) (is_year year) (are_units units) good in
    found shipment_codec t word.Unship (three (Unship t)) (Unship ticket product year units) (product, (year, units)) rest (f.1, (f.2, f.3)) refl refl (λ all. refl)

-- the fields of the text of an edit in form are the edit's
text_fields : (e : Edit) → is_edit_in_form e ≡ true → fields_of (edit_text e) ≡ edit_fields e
unfolding fields_of edit_text
text_fields e good =
    let told = to_word [] [] e good in
    let are : AreFields (word_text told.w ∷ told.fields) = (word_form.field told.w tt, told.are) in
    ap (λ fields. slice_split (λ b. b == 9) (join_with_byte 9 fields)) told.same
    ∙ split-joined 9 (word_text told.w) told.fields (are_without 9 (omega arith) (word_text told.w ∷ told.fields) are)
    ∙ sym told.same

-- reads as it is, under the ticket that is given
pub read_back : (t : List ℕ) (e : Edit) → is_edit_in_form e ≡ true → edit_of_text t (edit_text e) ≡ Some (with_ticket t e)
unfolding edit_of_text edit_reader
read_back t e good =
    let told = to_word t [] e good in
    let fields : edit_fields e ≡ word_text told.w ∷ (told.fields ++ []) = told.same ∙ ap (λ rest. word_text told.w ∷ rest) (sym (append-nil told.fields)) in
    ap (all_fields (edit_reader t)) (text_fields e good ∙ fields)
    ∙ ap (λ (w : Option EditWord). option_and_then ended (option_and_then (λ w. edit_reader_of_word t w.0 w.1) (with_rest (told.fields ++ []) w))) (word_form.back told.w tt)
    ∙ ap (option_and_then ended) told.read

ended_so : (o : Option (Edit × List (List ℕ))) (e : Edit) → option_and_then ended o ≡ Some e → o ≡ Some (e, [])
ended_so None e h = none_some e h
ended_so (Some (a, [])) e h = ap (λ x. Some (x, [])) (some_same a e h)
ended_so (Some (a, field ∷ fields)) e h = none_some e h

-- and what is read is an edit in form of this text
pub read_exact : (t text : List ℕ) (e : Edit) → is_code t ≡ true → edit_of_text t text ≡ Some e → (is_edit_in_form e ≡ true) × (text ≡ edit_text e)
unfolding edit_of_text edit_reader edit_text fields_of
read_exact t text e good h =
    let told = then_ (one edit_word_of (fields_of text)) refl (ended_so (edit_reader t (fields_of text)) e h) in
    (told.0, sym (join_with_byte-slice_split 9 text) ∙ ap (join_with_byte 9) told.1)
  where
    then_ : (w : Option (EditWord × List (List ℕ))) → one edit_word_of (fields_of text) ≡ w → option_and_then (λ w. edit_reader_of_word t w.0 w.1) w ≡ Some (e, []) → (is_edit_in_form e ≡ true) × (fields_of text ≡ edit_fields e)
    then_ None is read = none_some (e, []) read
    then_ (Some w) is read =
        let told = (one_codec edit_word_of word_text (λ _. Unit {0}) word_form).exact (fields_of text) w.1 w.0 is in
        let edit = by_word t good w.1 [] w.0 e read in
        (edit.0, told.1 ∙ edit.1 ∙ append-nil (edit_fields e))
