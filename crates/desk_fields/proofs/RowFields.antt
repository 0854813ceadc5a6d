-- A row in form is read from its code and its text, and what is read is the row of that code and text.
use Rattle.std.proofs.Common.{◌≡◌, ℕ, ◌<◌, ◌^◌, Bool, true, false, List, [], ◌∷◌, Option, Some, None, option_and_then, refl, sym, ap, ◌∙◌, append_assoc}
use Rattle.std.specs.Prelude.{◌==◌, decimal, is_ok}
use Rattle.std.specs.Char.{is_ascii_digit}
use Rattle.std.specs.Cmp.{first_so, second_so}
use Rattle.std.specs.List.{join_with_byte, slice_split}
use Rattle.std.specs.Str.{all_ascii_digits}
use Rattle.std.proofs.lemmas.Bool.{eqb-true, false≢true}
use Rattle.std.proofs.lemmas.Fmt.{decimal_is_IsNumeral}
use Rattle.std.proofs.lemmas.List.{append-nil}
use Rattle.std.proofs.lemmas.List.Elements.{All-nil, All-cons}
use Rattle.std.proofs.lemmas.List.Splits.{join_with_byte-slice_split}
use Rattle.desk_text.specs.Code.{is_code_byte}
use Rattle.desk_text.proofs.Fields.{Lacks, code_reader, lacks_in_code, split-joined}
use Rattle.desk_text.proofs.NumberLemmas.{decimal_model}
use Rattle.desk_law.specs.Rule.{rule_code}
use Rattle.desk_law.proofs.Rules.{rule_is_code}
use Rattle.desk_law.specs.declared.rule.Rule.{Rule}
use Rattle.desk_model.specs.Rows.{pair_code}
use Rattle.desk_model.specs.Values.{is_code}
use Rattle.desk_fields.specs.Reading.{Reader, ended, all_fields}
use Rattle.desk_fields.specs.RowReading.{pair_in, paired, two_parts}
use Rattle.desk_fields.proofs.Codec.{IsCodec, none_some, some_same}

-- all of the fields
ended_so : {A : Type 0} (o : Option (A × List (List ℕ))) (a : A) → option_and_then ended o ≡ Some a → o ≡ Some (a, [])
ended_so None a h = none_some a h
ended_so (Some (b, [])) a h = ap (λ x. Some (x, [])) (some_same b a h)
ended_so (Some (b, field ∷ fields)) a h = none_some a h

module _ {A : Type 0} {read : Reader A} {f : A → List (List ℕ)} {P : A → Type 0} (c : IsCodec read f P) where
  pub whole_exact : (all : List (List ℕ)) (a : A) → all_fields read all ≡ Some a → (P a) × (all ≡ f a)
  whole_exact all a h = let told = c.exact all [] a (ended_so (read all) a h) in (told.0, told.1 ∙ append-nil (f a))

  pub whole_back : (a : A) → P a → all_fields read (f a) ≡ Some a
  whole_back a is = ap (all_fields read) (sym (append-nil (f a))) ∙ ap (option_and_then ended) (c.back a [] is)

fields_inside : (first other : List ℕ) (fields others : List (List ℕ)) → first ∷ fields ≡ other ∷ others → (first ≡ other) × (fields ≡ others)
fields_inside first other fields others e = (cc, cc)

two_inside : (a b c d : List ℕ) (fields others : List (List ℕ)) → a ∷ b ∷ fields ≡ c ∷ d ∷ others → (a ≡ c) × (b ≡ d) × (fields ≡ others)
two_inside a b c d fields others e = (cc, cc, cc)

-- a row whose code is one value
module _ {R : Type 0} {read : Reader R} {f : R → List (List ℕ)} {P : R → Type 0} (c : IsCodec read f P) (key : R → List ℕ) (rest : R → List (List ℕ)) (is_keyed : (r : R) → f r ≡ key r ∷ rest r) where
  pub single_exact : (code : List ℕ) (fields : List (List ℕ)) (r : R) → all_fields read (code ∷ fields) ≡ Some r → (P r) × (code ≡ key r) × (fields ≡ rest r)
  single_exact code fields r h =
      let told = whole_exact c (code ∷ fields) r h in
      let parts = fields_inside code (key r) fields (rest r) (told.1 ∙ is_keyed r) in
      (told.0, parts.0, parts.1)

  pub single_back : (r : R) → P r → all_fields read (key r ∷ rest r) ≡ Some r
  single_back r is = ap (all_fields read) (sym (is_keyed r)) ∙ whole_back c r is

-- the two parts of a code
two_exact : (parts : List (List ℕ)) (a b : List ℕ) → two_parts parts ≡ Some (a, b) → parts ≡ a ∷ b ∷ []
two_exact [] a b h = none_some (a, b) h
two_exact (x ∷ []) a b h = none_some (a, b) h
two_exact (x ∷ y ∷ []) a b h = let same : ◌≡◌ {A = List ℕ × List ℕ} (x, y) (a, b) = some_same (x, y) (a, b) h in λ i. (same i).0 ∷ (same i).1 ∷ []
two_exact (x ∷ y ∷ z ∷ parts) a b h = none_some (a, b) h

pair_exact : (code a b : List ℕ) → pair_in code ≡ Some (a, b) → code ≡ pair_code a b
unfolding pair_in
pair_exact code a b h =
    sym (join_with_byte-slice_split 47 code) ∙ ap (join_with_byte 47) (two_exact (slice_split (λ x. x == 47) code) a b h) ∙ sym (append_assoc a (47 ∷ []) b)

pair_back : (a b : List ℕ) → Lacks 47 a → Lacks 47 b → pair_in (pair_code a b) ≡ Some (a, b)
unfolding pair_in
pair_back a b first second =
    ap (λ (code : List ℕ). two_parts (slice_split (λ x. x == 47) code)) (append_assoc a (47 ∷ []) b)
    ∙ ap two_parts (split-joined 47 a (b ∷ []) (first, (second, tt)))

module _ {R : Type 0} {read : Reader R} {f : R → List (List ℕ)} {P : R → Type 0} (c : IsCodec read f P) (first second : R → List ℕ) (rest : R → List (List ℕ)) (is_keyed : (r : R) → f r ≡ first r ∷ second r ∷ rest r)
    (lack_first : (r : R) → P r → Lacks 47 (first r)) (lack_second : (r : R) → P r → Lacks 47 (second r)) where
  paired_by : (code : List ℕ) (fields : List (List ℕ)) (r : R) (o : Option (List ℕ × List ℕ)) → pair_in code ≡ o → option_and_then (λ key. all_fields read (key.0 ∷ key.1 ∷ fields)) o ≡ Some r
      → (P r) × (code ≡ pair_code (first r) (second r)) × (fields ≡ rest r)
  paired_by code fields r None is h = none_some r h
  paired_by code fields r (Some key) is h =
      let told = whole_exact c (key.0 ∷ key.1 ∷ fields) r h in
      let parts = two_inside key.0 key.1 (first r) (second r) fields (rest r) (told.1 ∙ is_keyed r) in
      (told.0, pair_exact code key.0 key.1 is ∙ (λ i. pair_code (parts.0 i) (parts.1 i)), parts.2)

  pub pair_row_exact : (code : List ℕ) (fields : List (List ℕ)) (r : R) → paired read code fields ≡ Some r → (P r) × (code ≡ pair_code (first r) (second r)) × (fields ≡ rest r)
  pair_row_exact code fields r h = paired_by code fields r (pair_in code) refl h

  pub pair_row_back : (r : R) → P r → paired read (pair_code (first r) (second r)) (rest r) ≡ Some r
  pair_row_back r is =
      ap (option_and_then (λ key. all_fields read (key.0 ∷ key.1 ∷ rest r))) (pair_back (first r) (second r) (lack_first r is) (lack_second r is))
      ∙ ap (all_fields read) (sym (is_keyed r)) ∙ whole_back c r is

-- parts of codes without the byte that stands between them
pub code_lacks : (c : ℕ) → is_code_byte c ≡ false → (code : List ℕ) → is_code code ≡ true → Lacks c code
code_lacks c other code good = lacks_in_code c other code (code_reader.back code good)

digits_lack : (c : ℕ) → is_ascii_digit c ≡ false → (digits : List ℕ) → all_ascii_digits digits ≡ true → Lacks c digits
digits_lack c other [] all = All-nil (λ b. (b == c) ≡ false)
digits_lack c other (b ∷ ds) all =
    All-cons (λ x. (x == c) ≡ false) b ds (differ (b == c) refl) (digits_lack c other ds (second_so (is_ascii_digit b) (all_ascii_digits ds) all))
  where
    differ : (same : Bool) → (b == c) ≡ same → same ≡ false
    differ true is = absurd (false≢true (sym other ∙ ap is_ascii_digit (sym (eqb-true b c is)) ∙ first_so (is_ascii_digit b) (all_ascii_digits ds) all))
    differ false is = refl

pub number_lacks : (c : ℕ) → is_ascii_digit c ≡ false → (n : ℕ) → n < 2 ^ 64 → Lacks c (decimal n)
number_lacks c other n small = digits_lack c other (decimal n) (decimal_model.from (decimal n) (decimal_is_IsNumeral n small).0.1)

pub rule_lacks : (rule : Rule) → Lacks 47 (rule_code rule)
rule_lacks rule = code_lacks 47 refl (rule_code rule) (ap is_ok (rule_is_code rule))
