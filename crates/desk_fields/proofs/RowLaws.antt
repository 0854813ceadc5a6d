-- What is read of a code and a text is their row, and a row in form is read of its code and text.
use Rattle.std.proofs.Common.{◌≡◌, ℕ, ◌-◌, ◌≤◌, ◌^◌, Bool, true, false, cond, ◌&&◌, List, [], ◌∷◌, ◌++◌, is_some, Option, Some, None, Result, Ok, Err, option_map, option_and_then, refl, sym, ap, subst, ◌∙◌, arith}
use Rattle.std.specs.Prelude.{◌==◌, codes, decimal}
use Rattle.std.specs.List.{join_with_byte, slice_split}
use Rattle.std.proofs.lemmas.Bool.{and_from, and_parts, eqb-true, false≢true}
use Rattle.std.proofs.lemmas.List.Elements.{All-cons, All-nil}
use Rattle.std.proofs.lemmas.List.Splits.{join_with_byte-slice_split, slice_split_at}
use Rattle.std.proofs.lemmas.Option.{cond_some}
use Rattle.desk_text.proofs.Fields.{AreFields, are_without, split-joined}
use Rattle.desk_law.specs.Rule.{rule_code}
use Rattle.desk_model.specs.declared.row.Row.{Row}
use Rattle.desk_model.specs.declared.row.Row.TheVariants.{Substance, Member, Material, Part, Line, Product, Exemption, Candidate, Shipment, Ticket}
use Rattle.desk_model.specs.declared.rows.ticket.TicketRow.{TicketRow}
use Rattle.desk_model.specs.Declaration.{is_declaration_number}
use Rattle.desk_model.specs.EditText.{joined}
use Rattle.desk_model.specs.EditWords.{edit_word_of}
use Rattle.desk_model.specs.Rows.{record_code, table_number}
use Rattle.desk_model.specs.RowTexts.{body_fields, body_text, version}
use Rattle.desk_model.proofs.EditTold.{number_small}
use Rattle.std.specs.Result.{IsErrAnd}
use Rattle.desk_fields.specs.declared.field_fault.FieldFault.{FieldFault}
use Rattle.desk_fields.specs.declared.field_fault.FieldFault.TheVariants.{Shape, OutOfMemory}
use Rattle.desk_fields.specs.declared.row_fault.RowFault.{RowFault}
use Rattle.desk_fields.specs.declared.row_fault.RowFault.TheVariants as row
use Rattle.desk_fields.specs.Faults.{row_fault_of}
use Rattle.desk_fields.specs.EditReading.{edit_reader, edit_of_text}
use Rattle.desk_fields.specs.EditTexts.{IsEditText}
use Rattle.desk_text.specs.Forms.{a_number}
use Rattle.desk_fields.specs.Reading.{fields_of, one}
use Rattle.desk_fields.specs.RowReading.{is_ticket_code, row_of_fields, ticket_of, ticket_row_in}
use Rattle.desk_fields.specs.RowTexts.{IsRowInForm, IsRowOf, IsTicketRow}
use Rattle.desk_fields.proofs.Codec.{IsCodec, none_some, some_same}
use Rattle.desk_fields.proofs.Declared.{Within, exemption_codec, number_codec, number_good, number_read}
use Rattle.desk_fields.proofs.EditFields.{read_back}
use Rattle.desk_fields.proofs.RowFields.{number_lacks, pair_row_back, pair_row_exact, rule_lacks, single_back, single_exact}
use Rattle.desk_fields.proofs.RowsRead.{candidate_row_codec, child_lacks, line_row_codec, material_row_codec, member_lacks, member_row_codec, parent_lacks, part_row_codec, product_lacks, product_row_codec, shipment_row_codec, substance_row_codec, year_lacks}
use Rattle.desk_fields.proofs.TicketCodes.{ticket_code_back, ticket_code_exact}
use Rattle.desk_fields.proofs.Tickets.{other_good, text_read}

mapped_so : {A B : Type 0} (make : A → B) (o : Option A) (b : B) → option_map make o ≡ Some b → (a : A) × (o ≡ Some a) × (make a ≡ b)
mapped_so make None b h = none_some b h
mapped_so make (Some a) b h = (a, refl, some_same (make a) b h)

no_edit : is_some (edit_of_text (codes "D") []) ≡ false
unfolding edit_of_text edit_reader fields_of edit_word_of
no_edit = refl

-- the table's number decides
module _ {A G : Type 0} (n table : ℕ) (here later : Option A) (a : A) where
  decide : (b : Bool) → (table == n) ≡ b → cond b here later ≡ Some a → (table ≡ n → here ≡ Some a → G) → (later ≡ Some a → G) → G
  decide true is h found other = found (eqb-true table n is) h
  decide false is h found other = other h

module _ (table : ℕ) (code body : List ℕ) (fields : List (List ℕ)) (is : fields_of body ≡ version ∷ fields) where
  -- the text of these fields
  text_of : (row : Row) → fields ≡ body_fields row → body ≡ body_text row
  unfolding fields_of body_text
  text_of row same = sym (join_with_byte-slice_split 9 body) ∙ ap (join_with_byte 9) (is ∙ ap (λ rest. version ∷ rest) same)

  -- a ticket
  number_in : IsCodec (one (a_number 1 (2 ^ 64 - 1))) (λ n. decimal n ∷ []) (Within 1 (2 ^ 64 - 1))
  number_in = number_codec 1 (2 ^ 64 - 1) (omega arith)

  there : {A : Type 0} (o : Option A) → is_some o ≡ true → (a : A) × (o ≡ Some a)
  there None h = absurd (false≢true h)
  there (Some a) h = (a, refl)

  ticket_text : (n : ℕ) (rest : List (List ℕ)) → is_some (edit_of_text (codes "D") (joined rest)) ≡ true → fields ≡ decimal n ∷ rest → body ≡ join_with_byte 9 (version ∷ decimal n ∷ joined rest ∷ [])
  unfolding fields_of
  ticket_text n [] h same = absurd (false≢true (sym no_edit ∙ h))
  ticket_text n (field ∷ rest) h same = sym (join_with_byte-slice_split 9 body) ∙ ap (join_with_byte 9) (is ∙ ap (λ fs. version ∷ fs) same)

  ticket_by : (r : TicketRow) (o : Option (ℕ × List (List ℕ))) → table ≡ 10 → one (a_number 1 (2 ^ 64 - 1)) fields ≡ o → option_and_then (λ n. ticket_of code n.0 (joined n.1)) o ≡ Some r → IsRowOf table code body (Ticket r)
  unfolding IsRowInForm body_text body_fields table_number record_code
  ticket_by r None t read h = none_some r h
  ticket_by r (Some n) t read h =
      let number = number_in.exact fields n.1 n.0 read in
      let passed = cond_some (is_ticket_code code && is_some (edit_of_text (codes "D") (joined n.1))) (record { code = code; number = n.0; text = joined n.1 }) r h in
      let parts = and_parts (is_ticket_code code) (is_some (edit_of_text (codes "D") (joined n.1))) passed.0 in
      let edit = there (edit_of_text (codes "D") (joined n.1)) parts.1 in
      subst (λ row. IsRowOf table code body (Ticket row)) passed.1 (record {
        form = record { code = ticket_code_exact code parts.0; number = number_good n.0 number.0; text = text_read (joined n.1) (codes "D") edit.0 other_good edit.1 };
        of_table = t;
        has_code = refl;
        has_body = ticket_text n.0 n.1 parts.1 number.1;
      })

  ticket_exact : (row : Row) → table ≡ 10 → option_map Ticket (ticket_row_in code fields) ≡ Some row → IsRowOf table code body row
  unfolding ticket_row_in
  ticket_exact row t h =
      let m = mapped_so Ticket (ticket_row_in code fields) row h in
      subst (IsRowOf table code body) m.2 (ticket_by m.0 (one (a_number 1 (2 ^ 64 - 1)) fields) t refl m.1)

  pub row_exact : (row : Row) → row_of_fields table code fields ≡ Some row → IsRowOf table code body row
  unfolding row_of_fields IsRowInForm table_number record_code body_fields
  row_exact row h =
      decide 1 table _ _ row (table == 1) refl h (λ t here.
      let m = mapped_so Substance _ row here in
      let r = single_exact substance_row_codec (λ r. r.code) _ (λ r. refl) code fields m.0 m.1 in
      subst (IsRowOf table code body) m.2 (record { form = r.0; of_table = t; has_code = r.1; has_body = text_of (Substance m.0) r.2 })) (λ h.
      decide 2 table _ _ row (table == 2) refl h (λ t here.
      let m = mapped_so Member _ row here in
      let r = pair_row_exact member_row_codec (λ r. r.substance) (λ r. rule_code r.rule) _ (λ r. refl) member_lacks (λ r _. rule_lacks r.rule) code fields m.0 m.1 in
      subst (IsRowOf table code body) m.2 (record { form = r.0; of_table = t; has_code = r.1; has_body = text_of (Member m.0) r.2 })) (λ h.
      decide 3 table _ _ row (table == 3) refl h (λ t here.
      let m = mapped_so Material _ row here in
      let r = single_exact material_row_codec (λ r. r.code) _ (λ r. refl) code fields m.0 m.1 in
      subst (IsRowOf table code body) m.2 (record { form = r.0; of_table = t; has_code = r.1; has_body = text_of (Material m.0) r.2 })) (λ h.
      decide 4 table _ _ row (table == 4) refl h (λ t here.
      let m = mapped_so Part _ row here in
      let r = single_exact part_row_codec (λ r. r.code) _ (λ r. refl) code fields m.0 m.1 in
      subst (IsRowOf table code body) m.2 (record { form = r.0; of_table = t; has_code = r.1; has_body = text_of (Part m.0) r.2 })) (λ h.
      decide 5 table _ _ row (table == 5) refl h (λ t here.
      let m = mapped_so Line _ row here in
      let r = pair_row_exact line_row_codec (λ r. r.parent) (λ r. r.child) _ (λ r. refl) parent_lacks child_lacks code fields m.0 m.1 in
      subst (IsRowOf table code body) m.2 (record { form = r.0; of_table = t; has_code = r.1; has_body = text_of (Line m.0) r.2 })) (λ h.
      decide 6 table _ _ row (table == 6) refl h (λ t here.
      let m = mapped_so Product _ row here in
      let r = single_exact product_row_codec (λ r. r.part) _ (λ r. refl) code fields m.0 m.1 in
      subst (IsRowOf table code body) m.2 (record { form = r.0; of_table = t; has_code = r.1; has_body = text_of (Product m.0) r.2 })) (λ h.
      decide 7 table _ _ row (table == 7) refl h (λ t here.
      let m = mapped_so Exemption _ row here in
      let r = single_exact exemption_codec (λ r. r.terms.row) _ (λ r. refl) code fields m.0 m.1 in
      subst (IsRowOf table code body) m.2 (record { form = r.0; of_table = t; has_code = r.1; has_body = text_of (Exemption m.0) r.2 })) (λ h.
      decide 8 table _ _ row (table == 8) refl h (λ t here.
      let m = mapped_so Candidate _ row here in
      let r = single_exact candidate_row_codec (λ r. r.substance) _ (λ r. refl) code fields m.0 m.1 in
      subst (IsRowOf table code body) m.2 (record { form = r.0; of_table = t; has_code = r.1; has_body = text_of (Candidate m.0) r.2 })) (λ h.
      decide 9 table _ _ row (table == 9) refl h (λ t here.
      let m = mapped_so Shipment _ row here in
      let r = pair_row_exact shipment_row_codec (λ r. decimal r.year) (λ r. r.product) _ (λ r. refl) year_lacks product_lacks code fields m.0 m.1 in
      subst (IsRowOf table code body) m.2 (record { form = r.0; of_table = t; has_code = r.1; has_body = text_of (Shipment m.0) r.2 })) (λ h.
      decide 10 table _ _ row (table == 10) refl h (λ t here. ticket_exact row t here) (λ h. none_some row h))))))))))

  -- the fields of a text that was written are those that were written
  rest_inside : (first other : List ℕ) (some more : List (List ℕ)) → first ∷ some ≡ other ∷ more → some ≡ more
  rest_inside first other some more e = cc

  same_fields : (others : List (List ℕ)) → AreFields others → body ≡ join_with_byte 9 (version ∷ others) → fields ≡ others
  unfolding fields_of
  same_fields others are e =
      rest_inside version version fields others
      (sym is ∙ ap (slice_split (λ b. b == 9)) e ∙ split-joined 9 version others (are_without 9 (omega arith) (version ∷ others) (All-cons (λ b. 32 ≤ b) 49 [] (omega arith) (All-nil (λ b. 32 ≤ b)), are)))

  ticket_fields : (r : TicketRow) → is_declaration_number r.number ≡ true → body ≡ join_with_byte 9 (version ∷ decimal r.number ∷ r.text ∷ []) → fields ≡ decimal r.number ∷ fields_of r.text
  unfolding fields_of
  ticket_fields r fits e =
      let tab : ℕ → Bool = λ b. b == 9 in
      rest_inside version version fields (decimal r.number ∷ slice_split tab r.text)
      (sym is ∙ ap (slice_split tab) e
      ∙ slice_split_at tab version 9 (decimal r.number ++ (9 ∷ r.text)) (All-cons (λ b. (b == 9) ≡ false) 49 [] refl (All-nil (λ b. (b == 9) ≡ false))) refl
      ∙ ap (λ rest. version ∷ rest) (slice_split_at tab (decimal r.number) 9 r.text (number_lacks 9 refl r.number (number_small r.number fits)) refl))

  edit_there : (text : List ℕ) → IsEditText text → is_some (edit_of_text (codes "D") text) ≡ true
  edit_there text e = ap is_some (ap (edit_of_text (codes "D")) e.2 ∙ read_back (codes "D") e.0 e.1)

  ticket_read : (r : TicketRow) → IsTicketRow r → ticket_row_in r.code (decimal r.number ∷ fields_of r.text) ≡ Some r
  unfolding ticket_row_in fields_of
  ticket_read r form =
      ap (option_and_then (λ n. ticket_of r.code n.0 (joined n.1))) (number_in.back r.number (fields_of r.text) (number_read r.number form.number))
      ∙ ap (ticket_of r.code r.number) (join_with_byte-slice_split 9 r.text)
      ∙ ap (λ b. cond b (Some r) None) (and_from (is_ticket_code r.code) (is_some (edit_of_text (codes "D") r.text)) (ticket_code_back r.code form.code) (edit_there r.text form.text))

  pub row_back : (row : Row) → IsRowOf table code body row → row_of_fields table code fields ≡ Some row
  unfolding row_of_fields IsRowInForm table_number record_code body_fields body_text
  row_back (Substance r) of =
      let same = same_fields (body_fields (Substance r)) (substance_row_codec.are r of.form).1 of.has_body in
      (λ i. row_of_fields (of.of_table i) (of.has_code i) (same i)) ∙ ap (option_map Substance) (single_back substance_row_codec (λ r. r.code) (λ r. body_fields (Substance r)) (λ r. refl) r of.form)
  row_back (Member r) of =
      let same = same_fields (body_fields (Member r)) (member_row_codec.are r of.form).1.1 of.has_body in
      (λ i. row_of_fields (of.of_table i) (of.has_code i) (same i))
      ∙ ap (option_map Member) (pair_row_back member_row_codec (λ r. r.substance) (λ r. rule_code r.rule) (λ r. body_fields (Member r)) (λ r. refl) member_lacks (λ r _. rule_lacks r.rule) r of.form)
  row_back (Material r) of =
      let same = same_fields (body_fields (Material r)) (material_row_codec.are r of.form).1 of.has_body in
      (λ i. row_of_fields (of.of_table i) (of.has_code i) (same i)) ∙ ap (option_map Material) (single_back material_row_codec (λ r. r.code) (λ r. body_fields (Material r)) (λ r. refl) r of.form)
  row_back (Part r) of =
      let same = same_fields (body_fields (Part r)) (part_row_codec.are r of.form).1 of.has_body in
      (λ i. row_of_fields (of.of_table i) (of.has_code i) (same i)) ∙ ap (option_map Part) (single_back part_row_codec (λ r. r.code) (λ r. body_fields (Part r)) (λ r. refl) r of.form)
  row_back (Line r) of =
      let same = same_fields (body_fields (Line r)) (line_row_codec.are r of.form).1.1 of.has_body in
      (λ i. row_of_fields (of.of_table i) (of.has_code i) (same i))
      ∙ ap (option_map Line) (pair_row_back line_row_codec (λ r. r.parent) (λ r. r.child) (λ r. body_fields (Line r)) (λ r. refl) parent_lacks child_lacks r of.form)
  row_back (Product r) of =
      let same = same_fields (body_fields (Product r)) (product_row_codec.are r of.form).1 of.has_body in
      (λ i. row_of_fields (of.of_table i) (of.has_code i) (same i)) ∙ ap (option_map Product) (single_back product_row_codec (λ r. r.part) (λ r. body_fields (Product r)) (λ r. refl) r of.form)
  row_back (Exemption r) of =
      let same = same_fields (body_fields (Exemption r)) (exemption_codec.are r of.form).1 of.has_body in
      (λ i. row_of_fields (of.of_table i) (of.has_code i) (same i)) ∙ ap (option_map Exemption) (single_back exemption_codec (λ r. r.terms.row) (λ r. body_fields (Exemption r)) (λ r. refl) r of.form)
  row_back (Candidate r) of =
      let same = same_fields (body_fields (Candidate r)) (candidate_row_codec.are r of.form).1 of.has_body in
      (λ i. row_of_fields (of.of_table i) (of.has_code i) (same i)) ∙ ap (option_map Candidate) (single_back candidate_row_codec (λ r. r.substance) (λ r. body_fields (Candidate r)) (λ r. refl) r of.form)
  row_back (Shipment r) of =
      let same = same_fields (body_fields (Shipment r)) (shipment_row_codec.are r of.form).1.1 of.has_body in
      (λ i. row_of_fields (of.of_table i) (of.has_code i) (same i))
      ∙ ap (option_map Shipment) (pair_row_back shipment_row_codec (λ r. decimal r.year) (λ r. r.product) (λ r. body_fields (Shipment r)) (λ r. refl) year_lacks product_lacks r of.form)
  row_back (Ticket r) of =
      let same = ticket_fields r of.form.number of.has_body in
      (λ i. row_of_fields (of.of_table i) (of.has_code i) (same i)) ∙ ap (option_map Ticket) (ticket_read r of.form)

-- the fields of a row's text are the version and others
pub has_version : (table : ℕ) (code body : List ℕ) (row : Row) → IsRowOf table code body row → (fields : List (List ℕ)) × (fields_of body ≡ version ∷ fields)
unfolding fields_of body_text
has_version table code body row of = by (body_fields row) of.has_body
  where
    by : (others : List (List ℕ)) → body ≡ join_with_byte 9 (version ∷ others) → (fields : List (List ℕ)) × (slice_split (λ b. b == 9) body ≡ version ∷ fields)
    by [] e = ([], ap (slice_split (λ b. b == 9)) e)
    by (other ∷ others) e = (
      slice_split (λ b. b == 9) (join_with_byte 9 (other ∷ others)),
      ap (slice_split (λ b. b == 9)) e
          ∙ slice_split_at (λ b. b == 9) version 9 (join_with_byte 9 (other ∷ others)) (All-cons (λ b. (b == 9) ≡ false) 49 [] refl (All-nil (λ b. (b == 9) ≡ false))) refl,
    )

-- and one row has it
pub one_row : (table : ℕ) (code body : List ℕ) (a b : Row) → IsRowOf table code body a → IsRowOf table code body b → a ≡ b
one_row table code body a b first second =
    let v = has_version table code body a first in
    some_same a b (sym (row_back table code body v.0 v.1 a first) ∙ row_back table code body v.0 v.1 b second)

-- a fault of the fields that is handed on
pub handed_row : {T : Type 0} (r : Result T RowFault) (fault : FieldFault) → IsErrAnd r (λ e. e ≡ row_fault_of fault) → r ≡ Err row.Shape → fault ≡ Shape
handed_row (Ok x) fault is e = absurd is
handed_row {T} (Err f) fault is e = by fault (sym is ∙ inside f e)
  where
    inside : (f : RowFault) → ◌≡◌ {A = Result T RowFault} (Err f) (Err row.Shape) → f ≡ row.Shape
    inside f e = cc

    by : (fault : FieldFault) → row_fault_of fault ≡ row.Shape → fault ≡ Shape
    by Shape e = refl
    by OutOfMemory e = cc

-- want of memory that is handed on as that of a row's text
pub handed_memory : {T : Type 0} (r : Result T RowFault) (fault : FieldFault) → IsErrAnd r (λ e. e ≡ row_fault_of fault) → r ≡ Err row.OutOfMemory → fault ≡ OutOfMemory
handed_memory (Ok x) fault is e = absurd is
handed_memory {T} (Err f) fault is e = by fault (sym is ∙ inside f e)
  where
    inside : (f : RowFault) → ◌≡◌ {A = Result T RowFault} (Err f) (Err row.OutOfMemory) → f ≡ row.OutOfMemory
    inside f e = cc

    by : (fault : FieldFault) → row_fault_of fault ≡ row.OutOfMemory → fault ≡ OutOfMemory
    by Shape e = cc
    by OutOfMemory e = refl
