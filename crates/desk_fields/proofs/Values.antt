-- What each sort of field is read as, and is written from.
use Rattle.std.proofs.Common.{◌≡◌, ℕ, ◌≤◌, ◌<◌, ◌^◌, Bool, true, false, cond, is_ok, List, [], ◌∷◌, length, Option, Some, None, option_and_then, refl, ap, ◌∙◌, arith}
use Rattle.std.specs.Prelude.{◌==◌, ◌&&◌, decimal, find, nat_le}
use Rattle.std.specs.Result.{result_ok}
use Rattle.std.specs.Str.{bytes_eq}
use Rattle.std.proofs.lemmas.Bool.{and_from, and_parts, eqb-true, false≢true, le-leb, leb-true}
use Rattle.std.proofs.lemmas.Fmt.{decimal_is_IsNumeral}
use Rattle.std.proofs.lemmas.Slice.Eq.{bytes_eq-Decides}
use Rattle.desk_text.specs.Cas.{cas_of}
use Rattle.desk_text.specs.Code.{code_of, exemption_number_of}
use Rattle.desk_text.specs.Day.{date_text, day_of, is_day}
use Rattle.desk_text.specs.Name.{name_of}
use Rattle.desk_text.specs.Number.{number_below}
use Rattle.desk_text.proofs.Fields.{cas_reader, code_reader, day_reader, exemption_number_reader, name_reader, number_reader}
use Rattle.desk_law.specs.declared.annex.Annex.{Annex}
use Rattle.desk_law.specs.declared.annex.Annex.TheVariants.{Three, Four}
use Rattle.desk_law.specs.Annex.{annex_number, annex_of}
use Rattle.desk_law.specs.Kind.{kind_code, kind_of}
use Rattle.desk_law.specs.Rule.{rule_code, rule_of}
use Rattle.desk_law.proofs.Codes.{kind_is_spelled, kind_of-kind_code, rule_is_spelled, rule_of-rule_code}
use Rattle.desk_law.proofs.Told.{annex_told, kind_told, rule_told}
use Rattle.desk_model.specs.declared.limits.TheConstants.{PPM_LIMIT}
use Rattle.desk_model.specs.declared.part_sort.PartSort.{PartSort}
use Rattle.desk_model.specs.declared.part_sort.PartSort.TheVariants.{Article, Assembly}
use Rattle.desk_model.specs.EditText.{optional_field, optional_number, sort_of, sort_word}
use Rattle.desk_model.specs.Forms.{is_optional_cas}
use Rattle.desk_model.specs.Terms.{is_ppm}
use Rattle.desk_model.specs.Values.{is_code, is_exemption_number, is_name}
use Rattle.desk_model.proofs.EditTold.{sort_told}
use Rattle.desk_model.specs.declared.edit_word.EditWord.{EditWord}
use Rattle.desk_model.specs.declared.edit_word.EditWord.TheVariants as word
use Rattle.desk_model.specs.EditWords.{all_words, edit_word_of, word_text}
use Rattle.desk_text.specs.Forms.{a_cas, a_code, a_day, a_name, a_number, an_exemption_number}
use Rattle.desk_fields.specs.Forms.{annex_of_text, maybe}
use Rattle.desk_fields.proofs.Codec.{IsForm, maybe_form, number_form, ok_of_some, reader_form}

pub code_form : IsForm a_code (λ code. code) (λ code. is_code code ≡ true)
unfolding a_code
code_form = reader_form code_of (λ code. code) (λ code. is_code code ≡ true) code_reader

pub name_form : IsForm a_name (λ name. name) (λ name. is_name name ≡ true)
unfolding a_name
name_form = reader_form name_of (λ name. name) (λ name. is_name name ≡ true) name_reader

cas_form : IsForm a_cas (λ cas. cas) (λ cas. is_ok (cas_of cas) ≡ true)
unfolding a_cas
cas_form = reader_form cas_of (λ cas. cas) (λ cas. is_ok (cas_of cas) ≡ true) cas_reader

pub exemption_number_form : IsForm an_exemption_number (λ number. number) (λ number. is_exemption_number number ≡ true)
unfolding an_exemption_number
exemption_number_form = reader_form exemption_number_of (λ number. number) (λ number. is_exemption_number number ≡ true) exemption_number_reader

pub day_form : IsForm a_day date_text (λ day. is_day day ≡ true)
unfolding a_day
day_form = reader_form day_of date_text (λ day. is_day day ≡ true) day_reader

pub rule_form : IsForm rule_of rule_code (λ _. Unit {0})
rule_form = record {
  back = λ rule _. rule_of-rule_code rule;
  exact = λ field rule e. (tt, rule_is_spelled field rule e);
  field = rule_told.field;
}

pub kind_form : IsForm kind_of kind_code (λ _. Unit {0})
kind_form = record {
  back = λ kind _. kind_of-kind_code kind;
  exact = λ field kind e. (tt, kind_is_spelled field kind e);
  field = kind_told.field;
}

-- what a search finds passes the test
passes_here : {A : Type 0} (p : A → Bool) (y x : A) (b : Bool) (rest : Option A) → p y ≡ b → (rest ≡ Some x → p x ≡ true) → cond b (Some y) rest ≡ Some x → p x ≡ true
passes_here p y x true rest is later h = cc
passes_here p y x false rest is later h = later h

find_passes : {A : Type 0} (p : A → Bool) (xs : List A) (x : A) → find p xs ≡ Some x → p x ≡ true
find_passes p [] x h = cc
find_passes p (y ∷ ys) x h = passes_here p y x (p y) (find p ys) refl (find_passes p ys x) h

sort_back : (sort : PartSort) → sort_of (sort_word sort) ≡ Some sort
unfolding sort_of
sort_back Article = refl
sort_back Assembly = refl

sort_exact : (field : List ℕ) (sort : PartSort) → sort_of field ≡ Some sort → sort_word sort ≡ field
unfolding sort_of
sort_exact field sort e = (bytes_eq-Decides (sort_word sort) field).0 (find_passes (λ s. bytes_eq (sort_word s) field) (Article ∷ Assembly ∷ []) sort e)

pub sort_form : IsForm sort_of sort_word (λ _. Unit {0})
sort_form = record { back = λ sort _. sort_back sort; exact = λ field sort e. (tt, sort_exact field sort e); field = sort_told.field }

word_back : (w : EditWord) → edit_word_of (word_text w) ≡ Some w
unfolding edit_word_of
word_back word.Substance = refl
word_back word.Member = refl
word_back word.Declare = refl
word_back word.Part = refl
word_back word.Line = refl
word_back word.Unline = refl
word_back word.Product = refl
word_back word.Exemption = refl
word_back word.Unexempt = refl
word_back word.Candidate = refl
word_back word.Ship = refl
word_back word.Unship = refl

word_is_code : (w : EditWord) → is_code (word_text w) ≡ true
unfolding code_of
word_is_code word.Substance = refl
word_is_code word.Member = refl
word_is_code word.Declare = refl
word_is_code word.Part = refl
word_is_code word.Line = refl
word_is_code word.Unline = refl
word_is_code word.Product = refl
word_is_code word.Exemption = refl
word_is_code word.Unexempt = refl
word_is_code word.Candidate = refl
word_is_code word.Ship = refl
word_is_code word.Unship = refl

word_exact : (field : List ℕ) (w : EditWord) → edit_word_of field ≡ Some w → word_text w ≡ field
unfolding edit_word_of
word_exact field w e = (bytes_eq-Decides (word_text w) field).0 (find_passes (λ v. bytes_eq (word_text v) field) all_words w e)

pub word_form : IsForm edit_word_of word_text (λ _. Unit {0})
word_form = record { back = λ w _. word_back w; exact = λ field w e. (tt, word_exact field w e); field = λ w _. code_reader.field (word_text w) (word_is_code w) }

-- an annex is read from its number
annex_found : (annex : Annex) → annex_of (annex_number annex) ≡ Some annex
unfolding annex_number
annex_found Three = refl
annex_found Four = refl

annex_found_by : (n : ℕ) (annex : Annex) → annex_of n ≡ Some annex → annex_number annex ≡ n
annex_found_by n annex e = eqb-true (annex_number annex) n (find_passes (λ a. annex_number a == n) (Three ∷ Four ∷ []) annex e)

annex_small : (annex : Annex) → annex_number annex < 2 ^ 64
unfolding annex_number
annex_small Three = omega arith
annex_small Four = omega arith

annex_back : (annex : Annex) → annex_of_text (decimal (annex_number annex)) ≡ Some annex
unfolding annex_of_text
annex_back annex = rw ((number_reader (2 ^ 64) (omega arith)).back (annex_number annex) (annex_small annex)) (annex_found annex)

annex_exact : (field : List ℕ) (annex : Annex) → annex_of_text field ≡ Some annex → decimal (annex_number annex) ≡ field
unfolding annex_of_text
annex_exact field annex e = by (result_ok (number_below (2 ^ 64) field)) refl e
  where
    by : (o : Option ℕ) → result_ok (number_below (2 ^ 64) field) ≡ o → option_and_then annex_of o ≡ Some annex → decimal (annex_number annex) ≡ field
    by None is e = cc
    by (Some n) is e =
        ap decimal (annex_found_by n annex e) ∙ ((number_reader (2 ^ 64) (omega arith)).exact field n (ok_of_some (number_below (2 ^ 64) field) n is)).1

pub annex_form : IsForm annex_of_text (λ annex. decimal (annex_number annex)) (λ _. Unit {0})
annex_form = record { back = λ annex _. annex_back annex; exact = λ field annex e. (tt, annex_exact field annex e); field = annex_told.field }

-- what may be absent
cas_some : (cas : List ℕ) → is_ok (cas_of cas) ≡ true → 0 < length cas
unfolding cas_of
cas_some [] good = absurd (false≢true good)
cas_some (b ∷ cas) good = omega arith

pub optional_cas_form : IsForm (maybe a_cas) optional_field (λ cas. is_optional_cas cas ≡ true)
optional_cas_form =
    maybe_form a_cas (λ cas. cas) (λ cas. is_ok (cas_of cas) ≡ true) cas_form cas_some optional_field (λ cas. is_optional_cas cas ≡ true) refl (λ cas. refl) refl (λ cas good. good) (λ cas good. good)

IsPpm : ℕ → Type 0
IsPpm n = (nat_le 0 n && nat_le n PPM_LIMIT) ≡ true

ppm_some : (n : ℕ) → IsPpm n → 0 < length (decimal n)
unfolding IsPpm
ppm_some n good = let below : n ≤ PPM_LIMIT = leb-true n PPM_LIMIT (and_parts (nat_le 0 n) (nat_le n PPM_LIMIT) good).1 in (decimal_is_IsNumeral n (omega (arith, below))).0.0

pub ppm_form : IsForm (maybe (a_number 0 PPM_LIMIT)) optional_number (λ ppm. is_ppm ppm ≡ true)
unfolding IsPpm
ppm_form =
    maybe_form (a_number 0 PPM_LIMIT) decimal IsPpm (number_form 0 PPM_LIMIT (omega arith)) ppm_some optional_number (λ ppm. is_ppm ppm ≡ true) refl (λ n. refl) refl
    (λ n good. (and_parts (nat_le 0 n) (nat_le n PPM_LIMIT) good).1)
    (λ n good. and_from (nat_le 0 n) (nat_le n PPM_LIMIT) (le-leb 0 n (omega arith)) good)
