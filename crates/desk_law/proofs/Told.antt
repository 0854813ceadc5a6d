-- Rules, kinds, sets of kinds and annexes are told by their fields.
use Rattle.std.proofs.Common.{◌≡◌, ◌<◌, ◌≤◌, ◌^◌, Ok, List, [], ◌∷◌, length, map, Some, arith, refl, sym, ap, ◌∙◌}
use Rattle.std.specs.Prelude.{decimal}
use Rattle.std.specs.List.{AllByRecursion, join_with_byte}
use Rattle.std.proofs.lemmas.List.{length-map}
use Rattle.std.proofs.lemmas.List.Elements.{All-append, All-cons}
use Rattle.desk_text.specs.Code.{code_of}
use Rattle.desk_text.proofs.FieldLemmas.{IsField, IsField-code}
use Rattle.desk_text.proofs.Fields.{IsTold, Lacks, joined-apart, lacks_in_code, number_told}
use Rattle.desk_law.specs.declared.annex.Annex.{Annex}
use Rattle.desk_law.specs.declared.annex.Annex.TheVariants.{Three, Four}
use Rattle.desk_law.specs.declared.kind.Kind.{Kind}
use Rattle.desk_law.specs.declared.kind.Kind.TheVariants.{LargeHousehold, SmallHousehold, Telecommunications, Consumer, Lighting, Tool, ToyLeisureSports, Toy, MedicalDevice, InVitroDiagnostic, ControlInstrument, IndustrialInstrument, Dispenser, Other}
use Rattle.desk_law.specs.Annex.{annex_number}
use Rattle.desk_law.specs.Kind.{kind_code, kind_of}
use Rattle.desk_law.specs.KindSet.{kinds_text}
use Rattle.desk_law.specs.Rule.{rule_code, rule_of}
use Rattle.desk_law.proofs.Codes.{kind_of-kind_code, rule_of-rule_code}
use Rattle.desk_law.proofs.Rules.{rule_is_code}

some_inside : {A : Type 0} (a b : A) → Some a ≡ Some b → a ≡ b
some_inside a b e = cc

pub rule_told : IsTold rule_code (λ _. Unit {0})
rule_told = record {
  apart = λ a b _ _ e. some_inside a b (sym (rule_of-rule_code a) ∙ ap rule_of e ∙ rule_of-rule_code b);
  field = λ a _. IsField-code (rule_code a) (rule_is_code a);
}

-- the code of a kind has the form of a code, as that of a rule
kind_is_code : (kind : Kind) → code_of (kind_code kind) ≡ Ok (kind_code kind)
unfolding code_of kind_code
kind_is_code LargeHousehold = refl
kind_is_code SmallHousehold = refl
kind_is_code Telecommunications = refl
kind_is_code Consumer = refl
kind_is_code Lighting = refl
kind_is_code Tool = refl
kind_is_code ToyLeisureSports = refl
kind_is_code Toy = refl
kind_is_code MedicalDevice = refl
kind_is_code InVitroDiagnostic = refl
kind_is_code ControlInstrument = refl
kind_is_code IndustrialInstrument = refl
kind_is_code Dispenser = refl
kind_is_code Other = refl

kind_apart : (a b : Kind) → kind_code a ≡ kind_code b → a ≡ b
kind_apart a b e = some_inside a b (sym (kind_of-kind_code a) ∙ ap kind_of e ∙ kind_of-kind_code b)

pub kind_told : IsTold kind_code (λ _. Unit {0})
kind_told = record {
  apart = λ a b _ _ e. kind_apart a b e;
  field = λ a _. IsField-code (kind_code a) (kind_is_code a);
}

annex_apart : (a b : Annex) → annex_number a ≡ annex_number b → a ≡ b
unfolding annex_number
annex_apart Three Three e = refl
annex_apart Three Four e = absurd (omega arith)
annex_apart Four Three e = absurd (omega arith)
annex_apart Four Four e = refl

annex_small : (a : Annex) → annex_number a < 2 ^ 64
unfolding annex_number
annex_small Three = omega arith
annex_small Four = omega arith

pub annex_told : IsTold (λ a. decimal (annex_number a)) (λ _. Unit {0})
annex_told = record {
  apart = λ a b _ _ e. annex_apart a b (number_told.apart (annex_number a) (annex_number b) (annex_small a) (annex_small b) e);
  field = λ a _. number_told.field (annex_number a) (annex_small a);
}

-- kinds by their codes
kinds_apart : (ks ls : List Kind) → map kind_code ks ≡ map kind_code ls → ks ≡ ls
kinds_apart [] [] e = refl
kinds_apart [] (l ∷ ls) e = cc
kinds_apart (k ∷ ks) [] e = cc
kinds_apart (k ∷ ks) (l ∷ ls) e =
    let first : kind_code k ≡ kind_code l = cc in
    let rest : map kind_code ks ≡ map kind_code ls = cc in
    λ i. kind_apart k l first i ∷ kinds_apart ks ls rest i

-- none of which has a comma
no_comma : (ks : List Kind) → AllByRecursion (Lacks 44) (map kind_code ks)
no_comma [] = tt
no_comma (k ∷ ks) = (lacks_in_code 44 refl (kind_code k) (kind_is_code k), no_comma ks)

set_apart : (ks ls : List Kind) → 0 < length ks → 0 < length ls → kinds_text ks ≡ kinds_text ls → ks ≡ ls
unfolding kinds_text
set_apart ks ls some more e =
    kinds_apart ks ls
    (joined-apart 44 (map kind_code ks) (map kind_code ls) (rw (length-map ks kind_code) some) (rw (length-map ls kind_code) more) (no_comma ks) (no_comma ls) e)

set_field : (k : Kind) (ks : List Kind) → IsField (join_with_byte 44 (map kind_code (k ∷ ks)))
set_field k [] = kind_told.field k tt
set_field k (l ∷ ks) =
    All-append (λ b. 32 ≤ b) (kind_code k) (44 ∷ join_with_byte 44 (map kind_code (l ∷ ks))) (kind_told.field k tt)
    (All-cons (λ b. 32 ≤ b) 44 (join_with_byte 44 (map kind_code (l ∷ ks))) (omega arith) (set_field l ks))

text_field : (ks : List Kind) → 0 < length ks → IsField (kinds_text ks)
unfolding kinds_text
text_field [] some = absurd (omega arith)
text_field (k ∷ ks) some = set_field k ks

-- a set of at least one kind
pub kinds_told : IsTold kinds_text (λ kinds. 0 < length kinds)
kinds_told = record { apart = set_apart; field = text_field }
