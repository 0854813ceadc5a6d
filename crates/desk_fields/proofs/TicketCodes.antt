-- The code of a ticket is told by its parts.
use Rattle.std.proofs.Common.{◌≡◌, inl, inr, ℕ, ◌-◌, ◌^◌, Bool, true, false, cond, ◌&&◌, List, [], ◌∷◌, ◌++◌, is_some, Option, Some, None, refl, sym, ap, ◌∙◌, append_assoc, arith}
use Rattle.std.specs.Prelude.{◌==◌, codes, decimal}
use Rattle.std.specs.List.{AllByRecursion, join_with_byte, slice_split}
use Rattle.std.specs.Str.{bytes_eq}
use Rattle.std.proofs.lemmas.Bool.{and_parts, false≢true}
use Rattle.std.proofs.lemmas.List.Elements.{All-cons, All-nil}
use Rattle.std.proofs.lemmas.List.Splits.{join_with_byte-slice_split}
use Rattle.std.proofs.lemmas.Slice.Eq.{bytes_eq-Decides}
use Rattle.desk_text.proofs.Fields.{Lacks, split-joined}
use Rattle.desk_model.specs.Declaration.{is_declaration_number}
use Rattle.desk_model.specs.EditText.{declared_code, sent_code}
use Rattle.desk_model.specs.Values.{is_code}
use Rattle.desk_model.proofs.EditTold.{number_small}
use Rattle.desk_text.specs.Forms.{a_code, a_number}
use Rattle.desk_fields.specs.Reading.{both, one, all_fields}
use Rattle.desk_fields.specs.RowReading.{are_ticket_parts, is_ticket_code}
use Rattle.desk_fields.specs.RowTexts.{IsTicketCode}
use Rattle.desk_fields.proofs.Codec.{IsCodec, both_codec}
use Rattle.desk_fields.proofs.Declared.{Within, code_codec, number_codec, number_good, number_read}
use Rattle.desk_fields.proofs.RowFields.{code_lacks, number_lacks, whole_back, whole_exact}

some_there : {A : Type 0} (o : Option A) → is_some o ≡ true → (a : A) × (o ≡ Some a)
some_there None e = absurd (false≢true e)
some_there (Some a) e = (a, refl)

abbrev declared_codes : IsCodec (both (one a_code) (one (a_number 1 (2 ^ 64 - 1)))) (λ x. (x.0 ∷ []) ++ (decimal x.1 ∷ [])) (λ x. (is_code x.0 ≡ true) × Within 1 (2 ^ 64 - 1) x.1)
declared_codes = both_codec _ _ _ _ _ _ code_codec (number_codec 1 (2 ^ 64 - 1) (omega arith))

module _ (code : List ℕ) where
  abbrev split : List (List ℕ)
  split = slice_split (λ b. b == 58) code

  joins : (parts : List (List ℕ)) → split ≡ parts → code ≡ join_with_byte 58 parts
  joins parts e = sym (join_with_byte-slice_split 58 code) ∙ ap (join_with_byte 58) e

  sent : (word : List ℕ) (parts : List (List ℕ)) → split ≡ word ∷ parts → bytes_eq word (codes "E") ≡ true → is_some (all_fields (one a_code) parts) ≡ true → IsTicketCode code
  sent word parts e is h =
      let there = some_there (all_fields (one a_code) parts) h in
      let told = whole_exact code_codec parts there.0 there.1 in
      let first : word ≡ codes "E" = (bytes_eq-Decides word (codes "E")).0 is in
      inl (there.0, told.0, joins (word ∷ parts) e ∙ (λ i. join_with_byte 58 (first i ∷ told.1 i)))

  declared : (word : List ℕ) (parts : List (List ℕ)) → split ≡ word ∷ parts → bytes_eq word (codes "D") ≡ true → is_some (all_fields (both (one a_code) (one (a_number 1 (2 ^ 64 - 1)))) parts) ≡ true → IsTicketCode code
  declared word parts e is h =
      let there = some_there (all_fields (both (one a_code) (one (a_number 1 (2 ^ 64 - 1)))) parts) h in
      let told = whole_exact declared_codes parts there.0 there.1 in
      let first : word ≡ codes "D" = (bytes_eq-Decides word (codes "D")).0 is in
      let supplier = there.0.0 in
      let number = there.0.1 in
      let regroup : codes "D:" ++ (supplier ++ (58 ∷ decimal number)) ≡ declared_code supplier number = sym (append_assoc (codes "D:" ++ supplier) (58 ∷ []) (decimal number)) in
      inr (supplier, number, told.0.0, number_good number told.0.1, joins (word ∷ parts) e ∙ (λ i. join_with_byte 58 (first i ∷ told.1 i)) ∙ regroup)

  by_parts : (parts : List (List ℕ)) → split ≡ parts → are_ticket_parts parts ≡ true → IsTicketCode code
  by_parts [] e h = absurd (false≢true h)
  by_parts (word ∷ parts) e h = by (bytes_eq word (codes "E")) refl h
    where
      by : (b : Bool) → bytes_eq word (codes "E") ≡ b
          → cond b (is_some (all_fields (one a_code) parts)) (bytes_eq word (codes "D") && is_some (all_fields (both (one a_code) (one (a_number 1 (2 ^ 64 - 1)))) parts)) ≡ true → IsTicketCode code
      by true is k = sent word parts e is k
      by false is k =
          let both_ = and_parts (bytes_eq word (codes "D")) (is_some (all_fields (both (one a_code) (one (a_number 1 (2 ^ 64 - 1)))) parts)) k in
          declared word parts e both_.0 both_.1

  pub ticket_code_exact : is_ticket_code code ≡ true → IsTicketCode code
  unfolding is_ticket_code
  ticket_code_exact h = by_parts split refl h

letter_lacks : (b : ℕ) → (b == 58) ≡ false → Lacks 58 (b ∷ [])
letter_lacks b other = All-cons (λ x. (x == 58) ≡ false) b [] other (All-nil (λ x. (x == 58) ≡ false))

-- and back
sent_back : (ticket : List ℕ) → is_code ticket ≡ true → is_ticket_code (sent_code ticket) ≡ true
unfolding is_ticket_code
sent_back ticket good =
    ap are_ticket_parts (split-joined 58 (codes "E") (ticket ∷ []) (letter_lacks 69 refl, (code_lacks 58 refl ticket good, tt)))
    ∙ ap is_some (whole_back code_codec ticket good)

declared_back : (supplier : List ℕ) (number : ℕ) → is_code supplier ≡ true → is_declaration_number number ≡ true → is_ticket_code (declared_code supplier number) ≡ true
unfolding is_ticket_code
declared_back supplier number good fits =
    let lack : AllByRecursion (Lacks 58) (codes "D" ∷ supplier ∷ decimal number ∷ []) = (letter_lacks 68 refl, (code_lacks 58 refl supplier good, (number_lacks 58 refl number (number_small number fits), tt))) in
    ap (λ (code : List ℕ). are_ticket_parts (slice_split (λ b. b == 58) code)) (append_assoc (codes "D:" ++ supplier) (58 ∷ []) (decimal number))
    ∙ ap are_ticket_parts (split-joined 58 (codes "D") (supplier ∷ decimal number ∷ []) lack)
    ∙ ap is_some (whole_back declared_codes (supplier, number) (good, number_read number fits))

pub ticket_code_back : (code : List ℕ) → IsTicketCode code → is_ticket_code code ≡ true
ticket_code_back code (inl sent_) = ap is_ticket_code sent_.2 ∙ sent_back sent_.0 sent_.1
ticket_code_back code (inr d) = ap is_ticket_code d.4 ∙ declared_back d.0 d.1 d.2 d.3
