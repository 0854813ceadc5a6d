-- A number's decimal text reads as the number, and a text that reads as a number is that number's.
use Rattle.std.proofs.Common.{◌≡◌, ℕ, ◌^◌, ◌<◌, ◌≤◌, Bool, true, false, not, ◌&&◌, inl, inr, Ok, Err, List, [], ◌∷◌, length, get_or, arith, refl, sym, ◌∙◌, ap}
use Rattle.std.specs.Prelude.{◌==◌, nat_eq, nat_lt, codes, decimal, if◌then◌else◌}
use Rattle.std.proofs.lemmas.Bool.{cases_order}
use Rattle.std.proofs.lemmas.Bool.Decides.{nat_tests}
use Rattle.std.proofs.lemmas.Fmt.{decimal_is_IsNumeral, decimal_digit, first_decimal, decimal-digits_value}
use Rattle.std.specs.Cmp.Derive.{both_true}
use Rattle.std.specs.List.{starts_with}
use Rattle.std.specs.Str.{all_ascii_digits}
use Rattle.std.specs.Str.Parse.{digits_value}
use Rattle.desk_text.specs.Number.{is_numeral, number_below}
use Rattle.desk_text.specs.declared.number.NumberFault.TheVariants.{Shape, TooBig}
use Rattle.desk_text.proofs.NumberLemmas.{decimal_model, digits-is_numeral}

-- a text whose first byte is past `0` doesn't begin with it
no_zero : (bytes : List ℕ) → 48 < get_or bytes 0 0 → starts_with nat_eq bytes (codes "0") ≡ false
no_zero [] past = absurd (omega arith)
no_zero (b ∷ bytes) past = grind (arith, nat_tests)

-- a first byte `0` of a numeral is the only one
only_zero : (bytes : List ℕ) → is_numeral bytes ≡ true → get_or bytes 0 0 ≡ 48 → length bytes ≡ 1
only_zero [] numeral zero = absurd (omega arith)
only_zero (b ∷ bytes) numeral zero = grind (arith, nat_tests)

and-false : (b : Bool) → (b && false) ≡ false
and-false true = refl
and-false false = refl

-- a number's text begins with no zero but in `0`
no_zero-decimal : (n : ℕ) → n < 2 ^ 64 → not (nat_lt 1 (length (decimal n)) && starts_with nat_eq (decimal n) (codes "0")) ≡ true
no_zero-decimal n small =
    elim (cases_order 0 n) [
      | inl zero ↦
          let text : decimal n ≡ 48 ∷ [] = ap decimal (sym zero) ∙ decimal_digit 0 (omega arith) in
          ap (λ t. not (nat_lt 1 (length t) && starts_with nat_eq t (codes "0"))) text
      | inr (inl positive) ↦
          ap (λ b. not (nat_lt 1 (length (decimal n)) && b)) (no_zero (decimal n) (first_decimal n positive small))
          ∙ ap not (and-false (nat_lt 1 (length (decimal n))))
      | inr (inr below) ↦ absurd (omega arith)
    ]

-- the decimal text of a number is a numeral
is_numeral-decimal : (n : ℕ) → n < 2 ^ 64 → is_numeral (decimal n) ≡ true
is_numeral-decimal n small =
    let numeral = decimal_is_IsNumeral n small in
    let digits : all_ascii_digits (decimal n) ≡ true = decimal_model.from (decimal n) numeral.0.1 in
    let nonempty : not (length (decimal n) == 0) ≡ true = grind (arith, nat_tests, numeral.0.0) in
    both_true (both_true digits nonempty) (no_zero-decimal n small)

pub number_below-decimal : (bound n : ℕ) → n < bound → bound ≤ 2 ^ 64 → number_below bound (decimal n) ≡ Ok n
unfolding number_below
number_below-decimal bound n below fits =
    let small : n < 2 ^ 64 = omega arith in
    let value : digits_value 10 (decimal n) ≡ n = (decimal_is_IsNumeral n small).1 in
    rw (is_numeral-decimal n small, value) (grind (arith, nat_tests))

-- a number is read only where no fault is found
no_fault : (value n : ℕ) (numeral below : Bool) → (if not numeral then Err Shape else (if below then Ok value else Err TooBig)) ≡ Ok n → (numeral ≡ true) × (below ≡ true) × (n ≡ value)
no_fault value n false below e = cc
no_fault value n true false e = cc
no_fault value n true true e = (refl, refl, cc)

pub decimal-number_below : (bound : ℕ) (bytes : List ℕ) (n : ℕ) → bound ≤ 2 ^ 64 → number_below bound bytes ≡ Ok n → (n < bound) × (decimal n ≡ bytes)
unfolding number_below
decimal-number_below bound bytes n fits read =
    let facts = no_fault (digits_value 10 bytes) n (is_numeral bytes) (nat_lt (digits_value 10 bytes) bound) read in
    let below : digits_value 10 bytes < bound = grind (arith, nat_tests, facts.1) in
    let digits = digits-is_numeral bytes facts.0 in
    (omega (arith, facts.2), ap decimal facts.2 ∙ decimal-digits_value decimal_model bytes digits.0 digits.1 (only_zero bytes facts.0) (omega arith))
