-- Readers of fields, each with the fields that it reads: what is written is read, and what is read was written.
use Rattle.std.proofs.Common.{◌≡◌, ℕ, zero, suc, ◌≤◌, ◌<◌, ◌^◌, Bool, true, cond, List, [], ◌∷◌, ◌++◌, length, Option, Some, None, option_map, option_and_then, Result, Ok, Err, refl, sym, ap, subst, ◌∙◌, append_assoc, arith}
use Rattle.std.specs.Prelude.{◌&&◌, decimal, nat_le}
use Rattle.std.specs.List.{AllByRecursion, flat_map}
use Rattle.std.specs.Result.{result_ok}
use Rattle.std.proofs.lemmas.Bool.{and_from, and_parts, le-leb, leb-true}
use Rattle.std.proofs.lemmas.List.Elements.{All-nil}
use Rattle.std.proofs.lemmas.Option.{cond_some, some_pair_parts}
use Rattle.desk_text.specs.Number.{number_below}
use Rattle.desk_text.proofs.FieldLemmas.{IsField, IsField-decimal}
use Rattle.desk_text.proofs.Fields.{AreFields, AreFields-append, IsReader, number_reader}
use Rattle.desk_text.specs.Forms.{a_number}
use Rattle.desk_fields.specs.Forms.{maybe}
use Rattle.desk_fields.specs.Reading.{Reader, both, counted_list, built_of, one, tested, times}

-- what a field is read as, each value from its one text
pub record IsForm {A : Type 0} (form : List ℕ → Option A) (text : A → List ℕ) (good : A → Type 0) : Type 0 where
  pub back : (a : A) → good a → form (text a) ≡ Some a
  pub exact : (field : List ℕ) (a : A) → form field ≡ Some a → good a × (text a ≡ field)
  pub field : (a : A) → good a → IsField (text a)

-- what is read from the front of fields, each value from its fields
pub record IsCodec {A : Type 0} (read : Reader A) (fields : A → List (List ℕ)) (good : A → Type 0) : Type 0 where
  pub back : (a : A) (rest : List (List ℕ)) → good a → read (fields a ++ rest) ≡ Some (a, rest)
  pub exact : (all rest : List (List ℕ)) (a : A) → read all ≡ Some (a, rest) → good a × (all ≡ fields a ++ rest)
  pub are : (a : A) → good a → AreFields (fields a)

-- what is read, with the rest, beside, onto and made
abbrev pub with_rest : {A : Type 0} → List (List ℕ) → Option A → Option (A × List (List ℕ))
with_rest rest read = option_map (λ a. (a, rest)) read

abbrev pub beside : {A B : Type 0} → A → Option (B × List (List ℕ)) → Option ((A × B) × List (List ℕ))
beside a read = option_map (λ y. ((a, y.0), y.1)) read

abbrev pub onto : {A : Type 0} → A → Option (List A × List (List ℕ)) → Option (List A × List (List ℕ))
onto a read = option_map (λ y. (a ∷ y.0, y.1)) read

abbrev pub making : {A B : Type 0} → (A → B) → Option (A × List (List ℕ)) → Option (B × List (List ℕ))
making make read = option_map (λ x. (make x.0, x.1)) read

pub none_some : {A G : Type 0} (a : A) → None ≡ Some a → G
none_some a e = cc

pub some_same : {A : Type 0} (a b : A) → Some a ≡ Some b → a ≡ b
some_same a b e = cc

pub ok_of_some : {A E : Type 0} (r : Result A E) (a : A) → result_ok r ≡ Some a → r ≡ Ok a
ok_of_some (Ok b) a e = ap (λ x. Ok x) (some_same b a e)
ok_of_some (Err f) a e = none_some a e

-- a form that is a reader of a text
pub reader_form : {A E : Type 0} (read : List ℕ → Result A E) (text : A → List ℕ) (good : A → Type 0) → IsReader read text good → IsForm (λ field. result_ok (read field)) text good
reader_form read text good r = record {
  back = λ a is. ap result_ok (r.back a is);
  exact = λ field a e. r.exact field a (ok_of_some (read field) a e);
  field = r.field;
}

-- a number of a range
pub number_form : (least greatest : ℕ) → greatest < 2 ^ 64 → IsForm (a_number least greatest) decimal (λ n. (nat_le least n && nat_le n greatest) ≡ true)
unfolding a_number
number_form least greatest small = record { back = back; exact = exact; field = field }
  where
    digits : IsReader (number_below (2 ^ 64)) decimal (λ n. n < 2 ^ 64)
    digits = number_reader (2 ^ 64) (omega arith)

    back : (n : ℕ) → (nat_le least n && nat_le n greatest) ≡ true → a_number least greatest (decimal n) ≡ Some n
    back n good =
        let below : n ≤ greatest = leb-true n greatest (and_parts (nat_le least n) (nat_le n greatest) good).1 in
        rw (digits.back n (omega (arith, below, small)), good) refl

    by : (field : List ℕ) (n : ℕ) (o : Option ℕ) → result_ok (number_below (2 ^ 64) field) ≡ o
        → option_and_then (λ m. cond (nat_le least m && nat_le m greatest) (Some m) None) o ≡ Some n → ((nat_le least n && nat_le n greatest) ≡ true) × (decimal n ≡ field)
    by field n None is e = none_some n e
    by field n (Some m) is e =
        let parts = cond_some (nat_le least m && nat_le m greatest) m n e in
        let read = digits.exact field m (ok_of_some (number_below (2 ^ 64) field) m is) in
        (subst (λ k. (nat_le least k && nat_le k greatest) ≡ true) parts.1 parts.0, ap decimal (sym parts.1) ∙ read.1)

    field : (n : ℕ) → (nat_le least n && nat_le n greatest) ≡ true → IsField (decimal n)
    field n good = let below : n ≤ greatest = leb-true n greatest (and_parts (nat_le least n) (nat_le n greatest) good).1 in digits.field n (omega (arith, below, small))

    exact : (field : List ℕ) (n : ℕ) → a_number least greatest field ≡ Some n → ((nat_le least n && nat_le n greatest) ≡ true) × (decimal n ≡ field)
    exact field n e = by field n (result_ok (number_below (2 ^ 64) field)) refl e

-- what may be absent
module _ {A : Type 0} (form : List ℕ → Option A) (text : A → List ℕ) (good : A → Type 0) (f : IsForm form text good) (some : (a : A) → good a → 0 < length (text a))
    (told : Option A → List ℕ) (fine : Option A → Type 0) (none_told : told None ≡ []) (some_told : (a : A) → told (Some a) ≡ text a)
    (none_fine : fine None) (some_fine : (a : A) → good a → fine (Some a)) (fine_some : (a : A) → fine (Some a) → good a) where
  there : (field : List ℕ) → 0 < length field → maybe form field ≡ option_map (λ a. Some a) (form field)
  there [] more = absurd (omega (arith, more))
  there (b ∷ field) more = refl

  maybe_back : (o : Option A) → fine o → maybe form (told o) ≡ Some o
  maybe_back None is = ap (maybe form) none_told
  maybe_back (Some a) is =
      ap (maybe form) (some_told a) ∙ there (text a) (some a (fine_some a is)) ∙ ap (option_map (λ a. Some a)) (f.back a (fine_some a is))

  maybe_by : (field : List ℕ) (o p : Option A) → form field ≡ p → option_map (λ a. Some a) p ≡ Some o → fine o × (told o ≡ field)
  maybe_by field o None is e = none_some o e
  maybe_by field o (Some a) is e =
      let same : Some a ≡ o = some_same (Some a) o e in
      let read = f.exact field a is in
      subst (λ p. fine p × (told p ≡ field)) same (some_fine a read.0, some_told a ∙ read.1)

  maybe_exact : (field : List ℕ) (o : Option A) → maybe form field ≡ Some o → fine o × (told o ≡ field)
  maybe_exact [] o e = subst (λ p. fine p × (told p ≡ [])) (some_same None o e) (none_fine, none_told)
  maybe_exact (b ∷ field) o e = maybe_by (b ∷ field) o (form (b ∷ field)) refl e

  maybe_field : (o : Option A) → fine o → IsField (told o)
  maybe_field None is = subst IsField (sym none_told) (All-nil (λ b. 32 ≤ b))
  maybe_field (Some a) is = subst IsField (sym (some_told a)) (f.field a (fine_some a is))

  pub maybe_form : IsForm (maybe form) told fine
  maybe_form = record { back = maybe_back; exact = maybe_exact; field = maybe_field }

-- a value of one field
pub one_codec : {A : Type 0} (form : List ℕ → Option A) (text : A → List ℕ) (good : A → Type 0) → IsForm form text good → IsCodec (one form) (λ a. text a ∷ []) good
one_codec {A} form text good f = record {
  back = λ a rest is. ap (with_rest rest) (f.back a is);
  exact = exact;
  are = λ a is. (f.field a is, tt);
}
  where
    by : (field : List ℕ) (fields rest : List (List ℕ)) (a : A) (o : Option A) → form field ≡ o → with_rest fields o ≡ Some (a, rest) → good a × (field ∷ fields ≡ text a ∷ rest)
    by field fields rest a None is e = none_some (a, rest) e
    by field fields rest a (Some x) is e =
        let parts = some_pair_parts x a fields rest e in
        let read = f.exact field x is in
        let same : field ≡ text a = sym read.1 ∙ ap text parts.0 in
        (subst good parts.0 read.0, λ i. same i ∷ parts.1 i)

    exact : (all rest : List (List ℕ)) (a : A) → one form all ≡ Some (a, rest) → good a × (all ≡ text a ∷ rest)
    exact [] rest a e = none_some (a, rest) e
    exact (field ∷ fields) rest a e = by field fields rest a (form field) refl e

-- two values
module _ {A B : Type 0} (first : Reader A) (second : Reader B) (f : A → List (List ℕ)) (g : B → List (List ℕ)) (P : A → Type 0) (Q : B → Type 0)
    (c : IsCodec first f P) (d : IsCodec second g Q) where
  both_back : (x : A × B) (rest : List (List ℕ)) → P x.0 × Q x.1 → both first second ((f x.0 ++ g x.1) ++ rest) ≡ Some (x, rest)
  both_back x rest is =
      ap (both first second) (append_assoc (f x.0) (g x.1) rest)
      ∙ ap (option_and_then (λ y. beside y.0 (second y.1))) (c.back x.0 (g x.1 ++ rest) is.0)
      ∙ ap (beside x.0) (d.back x.1 rest is.1)

  both_then : (all more rest : List (List ℕ)) (a : A) (x : A × B) (o : Option (B × List (List ℕ))) → P a → all ≡ f a ++ more → second more ≡ o
      → beside a o ≡ Some (x, rest) → (P x.0 × Q x.1) × (all ≡ (f x.0 ++ g x.1) ++ rest)
  both_then all more rest a x None is same read e = none_some (x, rest) e
  both_then all more rest a x (Some y) is same read e =
      let parts = some_pair_parts (a, y.0) x y.1 rest e in
      let next = d.exact more y.1 y.0 read in
      let whole : all ≡ (f a ++ g y.0) ++ y.1 = same ∙ ap (λ fields. f a ++ fields) next.1 ∙ sym (append_assoc (f a) (g y.0) y.1) in
      subst (λ r. (P x.0 × Q x.1) × (all ≡ (f x.0 ++ g x.1) ++ r)) parts.1
      (subst (λ z. (P z.0 × Q z.1) × (all ≡ (f z.0 ++ g z.1) ++ y.1)) parts.0 ((is, next.0), whole))

  both_by : (all rest : List (List ℕ)) (x : A × B) (o : Option (A × List (List ℕ))) → first all ≡ o
      → option_and_then (λ y. beside y.0 (second y.1)) o ≡ Some (x, rest) → (P x.0 × Q x.1) × (all ≡ (f x.0 ++ g x.1) ++ rest)
  both_by all rest x None read e = none_some (x, rest) e
  both_by all rest x (Some y) read e =
      let here = c.exact all y.1 y.0 read in
      both_then all y.1 rest y.0 x (second y.1) here.0 here.1 refl e

  pub both_codec : IsCodec (both first second) (λ x. f x.0 ++ g x.1) (λ x. P x.0 × Q x.1)
  both_codec = record {
    back = both_back;
    exact = λ all rest x e. both_by all rest x (first all) refl e;
    are = λ x is. AreFields-append (f x.0) (g x.1) (c.are x.0 is.0) (d.are x.1 is.1);
  }

-- what a value was made of
pub made_of : {A B : Type 0} (make : A → B) (read : Reader A) (all rest : List (List ℕ)) (b : B) → built_of make read all ≡ Some (b, rest) → (a : A) × (read all ≡ Some (a, rest)) × (make a ≡ b)
made_of {A} {B} make read all rest b e = by (read all) refl e
  where
    by : (o : Option (A × List (List ℕ))) → read all ≡ o → making make o ≡ Some (b, rest) → (a : A) × (read all ≡ Some (a, rest)) × (make a ≡ b)
    by None is e = none_some (b, rest) e
    by (Some x) is e =
        let parts = some_pair_parts (make x.0) b x.1 rest e in
        (x.0, is ∙ ap (λ r. Some (x.0, r)) parts.1, parts.0)

-- a value that is made of what is read
pub made_codec : {A B : Type 0} (make : A → B) (parts : B → A) → ((b : B) → make (parts b) ≡ b) → ((a : A) → parts (make a) ≡ a)
    → (read : Reader A) (f : A → List (List ℕ)) (P : A → Type 0) → IsCodec read f P → IsCodec (built_of make read) (λ b. f (parts b)) (λ b. P (parts b))
made_codec make parts whole same read f P c = record {
  back = λ b rest is. ap (making make) (c.back (parts b) rest is) ∙ ap (λ x. Some (x, rest)) (whole b);
  exact = λ all rest b e.
      let of = made_of make read all rest b e in
      let told = c.exact all rest of.0 of.1 in
      let is : of.0 ≡ parts b = sym (same of.0) ∙ ap parts of.2 in
      (subst P is told.0, told.1 ∙ ap (λ a. f a ++ rest) is);
  are = λ b is. c.are (parts b) is;
}

-- a value that passes a test
pub tested_codec : {A : Type 0} (test : A → Bool) (read : Reader A) (f : A → List (List ℕ)) (P : A → Type 0) → IsCodec read f P → IsCodec (tested test read) f (λ a. P a × (test a ≡ true))
tested_codec {A} test read f P c = record {
  back = λ a rest is. ap (option_and_then (λ x. cond (test x.0) (Some x) None)) (c.back a rest is.0) ∙ ap (λ b. cond b (Some (a, rest)) None) is.1;
  exact = λ all rest a e. by all rest a (read all) refl e;
  are = λ a is. c.are a is.0;
}
  where
    by : (all rest : List (List ℕ)) (a : A) (o : Option (A × List (List ℕ))) → read all ≡ o → option_and_then (λ x. cond (test x.0) (Some x) None) o ≡ Some (a, rest) → (P a × (test a ≡ true)) × (all ≡ f a ++ rest)
    by all rest a None is e = none_some (a, rest) e
    by all rest a (Some x) is e =
        let passed = cond_some (test x.0) x (a, rest) e in
        let pair : x.0 ≡ a = ap (λ p. p.0) passed.1 in
        let told = c.exact all rest a (is ∙ ap (λ p. Some p) passed.1) in
        ((told.0, subst (λ y. test y ≡ true) pair passed.0), told.1)

-- so many values
module _ {A : Type 0} (read : Reader A) (f : A → List (List ℕ)) (P : A → Type 0) (c : IsCodec read f P) where
  times_back : (xs : List A) (rest : List (List ℕ)) → AllByRecursion P xs → times (length xs) read (flat_map f xs ++ rest) ≡ Some (xs, rest)
  times_back [] rest all = refl
  times_back (x ∷ xs) rest all =
      ap (times (length (x ∷ xs)) read) (append_assoc (f x) (flat_map f xs) rest)
      ∙ ap (option_and_then (λ y. onto y.0 (times (length xs) read y.1))) (c.back x (flat_map f xs ++ rest) all.0)
      ∙ ap (onto x) (times_back xs rest all.1)

  times_are : (xs : List A) → AllByRecursion P xs → AreFields (flat_map f xs)
  times_are [] all = tt
  times_are (x ∷ xs) all = AreFields-append (f x) (flat_map f xs) (c.are x all.0) (times_are xs all.1)

  -- the values that were read
  abbrev Times : ℕ → List (List ℕ) → List (List ℕ) → List A → Type 0
  Times n all rest xs = (length xs ≡ n) × AllByRecursion P xs × (all ≡ flat_map f xs ++ rest)

  module _ (n : ℕ) (ih : (all rest : List (List ℕ)) (xs : List A) → times n read all ≡ Some (xs, rest) → Times n all rest xs) where
    times_then : (all more rest : List (List ℕ)) (x : A) (xs : List A) (o : Option (List A × List (List ℕ))) → P x → all ≡ f x ++ more → times n read more ≡ o
        → onto x o ≡ Some (xs, rest) → Times (suc n) all rest xs
    times_then all more rest x xs None is same told e = none_some (xs, rest) e
    times_then all more rest x xs (Some y) is same told e =
        let parts = some_pair_parts (x ∷ y.0) xs y.1 rest e in
        let later = ih more y.1 y.0 told in
        let whole : all ≡ (f x ++ flat_map f y.0) ++ y.1 = same ∙ ap (λ fields. f x ++ fields) later.2 ∙ sym (append_assoc (f x) (flat_map f y.0) y.1) in
        subst (λ r. Times (suc n) all r xs) parts.1 (subst (λ ys. Times (suc n) all y.1 ys) parts.0 (ap suc later.0, (is, later.1), whole))

    times_by : (all rest : List (List ℕ)) (xs : List A) (o : Option (A × List (List ℕ))) → read all ≡ o
        → option_and_then (λ y. onto y.0 (times n read y.1)) o ≡ Some (xs, rest) → Times (suc n) all rest xs
    times_by all rest xs None told e = none_some (xs, rest) e
    times_by all rest xs (Some y) told e =
        let here = c.exact all y.1 y.0 told in
        times_then all y.1 rest y.0 xs (times n read y.1) here.0 here.1 refl e

  times_exact : (n : ℕ) (all rest : List (List ℕ)) (xs : List A) → times n read all ≡ Some (xs, rest) → Times n all rest xs
  times_exact zero all rest xs e =
      let parts = some_pair_parts [] xs all rest e in
      subst (λ ys. Times zero all rest ys) parts.0 (refl, tt, parts.1)
  times_exact (suc n) all rest xs e = times_by n (times_exact n) all rest xs (read all) refl e

  -- a list of at most so many, with how many there are in front
  pub counted_codec : (limit : ℕ) → limit < 2 ^ 64 → IsCodec (counted_list limit read) (λ xs. decimal (length xs) ∷ flat_map f xs) (λ xs. (length xs ≤ limit) × AllByRecursion P xs)
  counted_codec limit small = record {
    back = back;
    exact = λ all rest xs e. by all rest xs (one (a_number 0 limit) all) refl e;
    are = λ xs is. (IsField-decimal (length xs) (omega (arith, is.0, small)), times_are xs is.1);
  }
    where
      count : IsCodec (one (a_number 0 limit)) (λ n. decimal n ∷ []) (λ n. (nat_le 0 n && nat_le n limit) ≡ true)
      count = one_codec (a_number 0 limit) decimal (λ n. (nat_le 0 n && nat_le n limit) ≡ true) (number_form 0 limit small)

      back : (xs : List A) (rest : List (List ℕ)) → (length xs ≤ limit) × AllByRecursion P xs → counted_list limit read ((decimal (length xs) ∷ flat_map f xs) ++ rest) ≡ Some (xs, rest)
      back xs rest is =
          let fits = and_from (nat_le 0 (length xs)) (nat_le (length xs) limit) (le-leb 0 (length xs) (omega arith)) (le-leb (length xs) limit is.0) in
          ap (option_and_then (λ n. times n.0 read n.1)) (count.back (length xs) (flat_map f xs ++ rest) fits) ∙ times_back xs rest is.1

      by : (all rest : List (List ℕ)) (xs : List A) (o : Option (ℕ × List (List ℕ))) → one (a_number 0 limit) all ≡ o → option_and_then (λ n. times n.0 read n.1) o ≡ Some (xs, rest)
          → ((length xs ≤ limit) × AllByRecursion P xs) × (all ≡ (decimal (length xs) ∷ flat_map f xs) ++ rest)
      by all rest xs None is e = none_some (xs, rest) e
      by all rest xs (Some n) is e =
          let head = count.exact all n.1 n.0 is in
          let items = times_exact n.0 n.1 rest xs e in
          let fits : n.0 ≤ limit = leb-true n.0 limit (and_parts (nat_le 0 n.0) (nat_le n.0 limit) head.0).1 in
          ((omega (arith, fits, items.0), items.1), head.1 ∙ (λ i. decimal (sym items.0 i) ∷ items.2 i))

-- the same, with what is asked of the values said in other words
pub codec_with : {A : Type 0} (read : Reader A) (f : A → List (List ℕ)) (P Q : A → Type 0) → IsCodec read f P → ((a : A) → P a → Q a) → ((a : A) → Q a → P a) → IsCodec read f Q
codec_with read f P Q c to from = record {
  back = λ a rest is. c.back a rest (from a is);
  exact = λ all rest a e. let told = c.exact all rest a e in (to a told.0, told.1);
  are = λ a is. c.are a (from a is);
}

-- and with the reader in other words
pub codec_same : {A : Type 0} (read other : Reader A) (f : A → List (List ℕ)) (P : A → Type 0) → ((fields : List (List ℕ)) → read fields ≡ other fields) → IsCodec other f P → IsCodec read f P
codec_same read other f P same c = record {
  back = λ a rest is. same (f a ++ rest) ∙ c.back a rest is;
  exact = λ all rest a e. c.exact all rest a (sym (same all) ∙ e);
  are = c.are;
}
