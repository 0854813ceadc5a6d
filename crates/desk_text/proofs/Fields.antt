-- What joined fields, and lists of fields, tell of the values that are written in them.
use Rattle.std.proofs.Common.{◌≡◌, ℕ, ◌<◌, ◌≤◌, ◌^◌, Bool, true, false, Result, Ok, Err, is_ok, List, [], ◌∷◌, ◌++◌, length, arith, refl, sym, ap, ◌∙◌, append_assoc}
use Rattle.std.specs.Prelude.{◌==◌, decimal}
use Rattle.std.specs.List.{All, AllByRecursion, flat_map, join_with_byte, slice_split}
use Rattle.std.proofs.lemmas.Bool.{eqb-true, false≢true}
use Rattle.std.proofs.lemmas.Bool.Decides.{nat_tests}
use Rattle.std.proofs.lemmas.List.Elements.{All-weaker}
use Rattle.std.proofs.lemmas.List.Splits.{join_with_byte-slice_split, slice_split_at, slice_split_none}
use Rattle.desk_text.specs.Cas.{cas_of}
use Rattle.desk_text.specs.Code.{code_of, exemption_number_of, is_code_byte}
use Rattle.desk_text.specs.Day.{date_text, day_of, is_day}
use Rattle.desk_text.specs.Name.{name_of}
use Rattle.desk_text.specs.Number.{number_below}
use Rattle.desk_text.proofs.CasLemmas.{cas_of-Ok}
use Rattle.desk_text.proofs.CodeLemmas.{code_of-Ok, exemption_number_of-Ok}
use Rattle.desk_text.proofs.DayTextLemmas.{date_text-day_of, day_of-Ok, day_of-date_text}
use Rattle.desk_text.proofs.FieldLemmas.{IsField, IsField-cas, IsField-code, IsField-date_text, IsField-decimal, IsField-exemption_number, IsField-name}
use Rattle.desk_text.proofs.NameLemmas.{name_of-Ok}
use Rattle.desk_text.proofs.NumberTextLemmas.{decimal-number_below, number_below-decimal}

-- each of them is a field
abbrev pub AreFields : List (List ℕ) → Type 0
AreFields = AllByRecursion IsField

fields_inside : (first other : List ℕ) (fields others : List (List ℕ)) → first ∷ fields ≡ other ∷ others → (first ≡ other) × (fields ≡ others)
fields_inside first other fields others e = (cc, cc)

-- no byte of the field is this one
abbrev pub Lacks : ℕ → List ℕ → Type 0
Lacks c = All (λ b. (b == c) ≡ false)

-- a field has no byte below the space, as TAB is
lacks_below : (c : ℕ) → c < 32 → (field : List ℕ) → IsField field → Lacks c field
lacks_below c low field is = All-weaker (λ b. 32 ≤ b) (λ b. (b == c) ≡ false) (λ b past. grind (arith, nat_tests)) field is

-- a code has no byte but those of codes
pub lacks_in_code : (c : ℕ) → is_code_byte c ≡ false → (code : List ℕ) → code_of code ≡ Ok code → Lacks c code
lacks_in_code c other code read = All-weaker (λ b. is_code_byte b ≡ true) (λ b. (b == c) ≡ false) (λ b good. differ b (b == c) refl good) code (code_of-Ok code code read).1.good
  where
    differ : (b : ℕ) (same : Bool) → (b == c) ≡ same → is_code_byte b ≡ true → same ≡ false
    differ b true is good = let e : b ≡ c = eqb-true b c is in absurd (false≢true (sym other ∙ ap is_code_byte (sym e) ∙ good))
    differ b false is good = refl

-- fields that are joined by a byte that none of them has are cut by it where they were joined
pub split-joined : (c : ℕ) (first : List ℕ) (fields : List (List ℕ)) → AllByRecursion (Lacks c) (first ∷ fields) → slice_split (λ b. b == c) (join_with_byte c (first ∷ fields)) ≡ first ∷ fields
split-joined c first [] lack = slice_split_none (λ b. b == c) first lack.0
split-joined c first (next ∷ fields) lack =
    slice_split_at (λ b. b == c) first c (join_with_byte c (next ∷ fields)) lack.0 (grind (arith, nat_tests))
    ∙ ap (λ rest. first ∷ rest) (split-joined c next fields lack.1)

-- so the text of at least one field tells them
pub joined-apart : (c : ℕ) (fields others : List (List ℕ)) → 0 < length fields → 0 < length others → AllByRecursion (Lacks c) fields → AllByRecursion (Lacks c) others → join_with_byte c fields ≡ join_with_byte c others → fields ≡ others
joined-apart c [] others some more lack too e = absurd (omega arith)
joined-apart c (first ∷ fields) [] some more lack too e = absurd (omega arith)
joined-apart c (first ∷ fields) (other ∷ others) some more lack too e =
    sym (split-joined c first fields lack) ∙ ap (slice_split (λ b. b == c)) e ∙ split-joined c other others too

-- and a text is told by what stands before the first such byte and what stands behind it
pub front-apart : (c : ℕ) (front other rest more : List ℕ) → Lacks c front → Lacks c other → front ++ (c ∷ rest) ≡ other ++ (c ∷ more) → (front ≡ other) × (rest ≡ more)
front-apart c front other rest more lack too e =
    let cut = λ (bytes : List ℕ). slice_split (λ b. b == c) bytes in
    let same : front ∷ cut rest ≡ other ∷ cut more =
    sym (slice_split_at (λ b. b == c) front c rest lack (grind (arith, nat_tests))) ∙ ap cut e ∙ slice_split_at (λ b. b == c) other c more too (grind (arith, nat_tests)) in
    let parts = fields_inside front other (cut rest) (cut more) same in
    (parts.0, sym (join_with_byte-slice_split c rest) ∙ ap (join_with_byte c) parts.1 ∙ join_with_byte-slice_split c more)

-- fields lack a byte below the space
pub are_without : (c : ℕ) → c < 32 → (fields : List (List ℕ)) → AreFields fields → AllByRecursion (Lacks c) fields
are_without c low [] are = tt
are_without c low (field ∷ fields) are = (lacks_below c low field are.0, are_without c low fields are.1)

-- values that a reader reads from a field, each written in one way
pub record IsReader {A E : Type 0} (read : List ℕ → Result A E) (text : A → List ℕ) (good : A → Type 0) : Type 0 where
  -- what is written reads as the value
  pub back : (a : A) → good a → read (text a) ≡ Ok a
  -- and what reads as the value is what is written
  pub exact : (bytes : List ℕ) (a : A) → read bytes ≡ Ok a → good a × (text a ≡ bytes)
  pub field : (a : A) → good a → IsField (text a)

-- values that their field tells
pub record IsTold {A : Type 0} (text : A → List ℕ) (good : A → Type 0) : Type 0 where
  pub apart : (a b : A) → good a → good b → text a ≡ text b → a ≡ b
  pub field : (a : A) → good a → IsField (text a)

-- two answers are one
abbrev Same : {A E : Type 0} → Result A E → Result A E → Type 0
Same a b = a ≡ b

ok_inside : {A E : Type 0} (a b : A) → Same {A = A} {E = E} (Ok a) (Ok b) → a ≡ b
ok_inside a b e = cc

-- what can be read is told
pub IsTold-reader : {A E : Type 0} (read : List ℕ → Result A E) (text : A → List ℕ) (good : A → Type 0) → IsReader read text good → IsTold text good
IsTold-reader {A} {E} read text good r = record {
  apart = λ a b first second e. ok_inside {E = E} a b (sym (r.back a first) ∙ ap read e ∙ r.back b second);
  field = r.field;
}

module _ {E : Type 0} (read : List ℕ → Result (List ℕ) E) (own : (bytes a : List ℕ) → read bytes ≡ Ok a → a ≡ bytes) where
  own_back : (bytes : List ℕ) (r : Result (List ℕ) E) → read bytes ≡ r → is_ok r ≡ true → read bytes ≡ Ok bytes
  own_back bytes (Ok a) is ok = is ∙ ap (λ x. Ok x) (own bytes a is)
  own_back bytes (Err e) is ok = cc

  -- a text that reads as itself
  reader_of_itself : ((a : List ℕ) → read a ≡ Ok a → IsField a) → IsReader read (λ a. a) (λ a. is_ok (read a) ≡ true)
  reader_of_itself field = record {
    back = λ a good. own_back a (read a) refl good;
    exact = λ bytes a e. let same : a ≡ bytes = own bytes a e in (ap (λ b. is_ok (read b)) same ∙ ap is_ok e, same);
    field = λ a good. field a (own_back a (read a) refl good);
  }

pub code_reader : IsReader code_of (λ code. code) (λ code. is_ok (code_of code) ≡ true)
code_reader = reader_of_itself code_of (λ bytes code e. (code_of-Ok bytes code e).0) IsField-code

pub exemption_number_reader : IsReader exemption_number_of (λ number. number) (λ number. is_ok (exemption_number_of number) ≡ true)
exemption_number_reader = reader_of_itself exemption_number_of (λ bytes number e. (exemption_number_of-Ok bytes number e).0) IsField-exemption_number

pub name_reader : IsReader name_of (λ name. name) (λ name. is_ok (name_of name) ≡ true)
name_reader = reader_of_itself name_of (λ bytes name e. (name_of-Ok bytes name e).0) IsField-name

pub cas_reader : IsReader cas_of (λ cas. cas) (λ cas. is_ok (cas_of cas) ≡ true)
cas_reader = reader_of_itself cas_of (λ bytes cas e. (cas_of-Ok bytes cas e).0) IsField-cas

pub day_reader : IsReader day_of date_text (λ d. is_day d ≡ true)
day_reader = record {
  back = day_of-date_text;
  exact = λ bytes d e. ((day_of-Ok bytes d e).1, date_text-day_of bytes d e);
  field = λ d good. IsField-date_text d;
}

pub number_reader : (bound : ℕ) → bound ≤ 2 ^ 64 → IsReader (number_below bound) decimal (λ n. n < bound)
number_reader bound fits = record {
  back = λ n below. number_below-decimal bound n below fits;
  exact = λ bytes n e. decimal-number_below bound bytes n fits e;
  field = λ n below. IsField-decimal n (omega arith);
}

-- days and numbers are told by their fields
pub day_told : IsTold date_text (λ d. is_day d ≡ true)
day_told = IsTold-reader day_of date_text (λ d. is_day d ≡ true) day_reader

pub number_told : IsTold decimal (λ n. n < 2 ^ 64)
number_told = IsTold-reader (number_below (2 ^ 64)) decimal (λ n. n < 2 ^ 64) (number_reader (2 ^ 64) (omega arith))

-- values that several fields tell, and where these end
pub record AreTold {A : Type 0} (fields : A → List (List ℕ)) (good : A → Type 0) : Type 0 where
  pub apart : (a b : A) (rest more : List (List ℕ)) → good a → good b → fields a ++ rest ≡ fields b ++ more → (a ≡ b) × (rest ≡ more)
  pub are : (a : A) → good a → AreFields (fields a)

pub AreFields-append : (fields more : List (List ℕ)) → AreFields fields → AreFields more → AreFields (fields ++ more)
AreFields-append [] more are too = too
AreFields-append (field ∷ fields) more are too = (are.0, AreFields-append fields more are.1 too)

-- a list of such values, with how many there are in front
module _ {A : Type 0} (fields : A → List (List ℕ)) (good : A → Type 0) (told : AreTold fields good) where
  items_apart : (xs ys : List A) (rest more : List (List ℕ)) → AllByRecursion good xs → AllByRecursion good ys → length xs ≡ length ys → flat_map fields xs ++ rest ≡ flat_map fields ys ++ more → (xs ≡ ys) × (rest ≡ more)
  items_apart [] [] rest more first second same e = (refl, e)
  items_apart [] (y ∷ ys) rest more first second same e = absurd (omega arith)
  items_apart (x ∷ xs) [] rest more first second same e = absurd (omega arith)
  items_apart (x ∷ xs) (y ∷ ys) rest more first second same e =
      let whole : fields x ++ (flat_map fields xs ++ rest) ≡ fields y ++ (flat_map fields ys ++ more) =
      sym (append_assoc (fields x) (flat_map fields xs) rest) ∙ e ∙ append_assoc (fields y) (flat_map fields ys) more in
      let here = told.apart x y (flat_map fields xs ++ rest) (flat_map fields ys ++ more) first.0 second.0 whole in
      let later = items_apart xs ys rest more first.1 second.1 (omega arith) here.1 in
      (λ i. here.0 i ∷ later.0 i, later.1)

  items_are : (xs : List A) → AllByRecursion good xs → AreFields (flat_map fields xs)
  items_are [] all = tt
  items_are (x ∷ xs) all = AreFields-append (fields x) (flat_map fields xs) (told.are x all.0) (items_are xs all.1)

  pub counted_told : AreTold (λ xs. decimal (length xs) ∷ flat_map fields xs) (λ xs. (length xs < 2 ^ 64) × AllByRecursion good xs)
  counted_told = record {
    apart = λ xs ys rest more first second e.
        let parts = fields_inside (decimal (length xs)) (decimal (length ys)) (flat_map fields xs ++ rest) (flat_map fields ys ++ more) e in
        items_apart xs ys rest more first.1 second.1 (number_told.apart (length xs) (length ys) first.0 second.0 parts.0) parts.1;
    are = λ xs all. (IsField-decimal (length xs) all.0, items_are xs all.1);
  }
