-- Numbers in a fixed number of digits.
use Rattle.std.proofs.Common.{◌≡◌, ℕ, zero, suc, ◌+◌, ◌*◌, ◌/◌, ◌%◌, ◌^◌, ◌<◌, true, List, [], ◌∷◌, ◌++◌, length, arith, refl, sym, ◌∙◌, ap, zero-add, add-zero, append_assoc, length-append}
use Rattle.std.proofs.lemmas.List.{append-nil}
use Rattle.std.proofs.Math.Nat.{pow-suc}
use Rattle.std.proofs.lemmas.Bool.Decides.{nat_tests}
use Rattle.std.proofs.lemmas.Int.Digits.{digits_value_push}
use Rattle.std.specs.Char.{is_ascii_digit, digit_value}
use Rattle.std.specs.Cmp.{first_so, second_so}
use Rattle.std.specs.Cmp.Derive.{both_true}
use Rattle.std.specs.Str.{all_ascii_digits}
use Rattle.std.specs.Str.Parse.{digits_value, digits_value_after}
use Rattle.desk_text.specs.Day.{zero_padded}

-- the byte of a digit
digit_byte : (d : ℕ) → d < 10 → is_ascii_digit (48 + d) ≡ true
digit_byte d low = grind (arith, nat_tests)

digit_value-byte : (d : ℕ) → d < 10 → digit_value (48 + d) ≡ d
digit_value-byte d low = grind (arith, nat_tests)

byte-digit_value : (b : ℕ) → is_ascii_digit b ≡ true → (digit_value b < 10) × (48 + digit_value b ≡ b)
byte-digit_value b digit = (grind (arith, nat_tests), grind (arith, nat_tests))

digits-push : (ds : List ℕ) (b : ℕ) → all_ascii_digits ds ≡ true → is_ascii_digit b ≡ true → all_ascii_digits (ds ++ b ∷ []) ≡ true
digits-push [] b digits digit = both_true digit refl
digits-push (c ∷ cs) b digits digit =
    both_true (first_so (is_ascii_digit c) (all_ascii_digits cs) digits) (digits-push cs b (second_so (is_ascii_digit c) (all_ascii_digits cs) digits) digit)

-- they are digits
pub digits-zero_padded : (places n : ℕ) → all_ascii_digits (zero_padded places n) ≡ true
digits-zero_padded zero n = refl
digits-zero_padded (suc places) n = digits-push (zero_padded places (n / 10)) (48 + n % 10) (digits-zero_padded places (n / 10)) (digit_byte (n % 10) (omega arith))

-- there is one for each place
pub length-zero_padded : (places n : ℕ) → length (zero_padded places n) ≡ places
length-zero_padded zero n = refl
length-zero_padded (suc places) n = omega (arith, length-append (zero_padded places (n / 10)) ((48 + n % 10) ∷ []), length-zero_padded places (n / 10))

-- they write the number, if it fits
pub digits_value-zero_padded : (places n : ℕ) → n < 10 ^ places → digits_value 10 (zero_padded places n) ≡ n
digits_value-zero_padded zero n small = omega arith
digits_value-zero_padded (suc places) n small =
    let front : n / 10 < 10 ^ places = omega (arith, pow-suc 10 places) in
    digits_value_push 10 (zero_padded places (n / 10)) (48 + n % 10)
    ∙ omega (arith, digits_value-zero_padded places (n / 10) front, digit_value-byte (n % 10) (omega arith))

-- and digits are those of their number, also when more follow
zero_padded-after : (places n : ℕ) (ds : List ℕ) → all_ascii_digits ds ≡ true → zero_padded (length ds + places) (digits_value_after 10 n ds) ≡ zero_padded places n ++ ds
zero_padded-after places n [] digits = ap (λ k. zero_padded k n) (zero-add places) ∙ sym (append-nil (zero_padded places n))
zero_padded-after places n (c ∷ cs) digits =
    let digit = byte-digit_value c (first_so (is_ascii_digit c) (all_ascii_digits cs) digits) in
    let rest : zero_padded (length cs + suc places) (digits_value_after 10 (n * 10 + digit_value c) cs) ≡ zero_padded (suc places) (n * 10 + digit_value c) ++ cs =
    zero_padded-after (suc places) (n * 10 + digit_value c) cs (second_so (is_ascii_digit c) (all_ascii_digits cs) digits) in
    let more : length (c ∷ cs) + places ≡ length cs + suc places = omega arith in
    let front : (n * 10 + digit_value c) / 10 ≡ n = omega (arith, digit.0) in
    let last : 48 + (n * 10 + digit_value c) % 10 ≡ c = omega (arith, digit) in
    ap (λ k. zero_padded k (digits_value_after 10 (n * 10 + digit_value c) cs)) more ∙ rest
    ∙ ap (λ b. (zero_padded places ((n * 10 + digit_value c) / 10) ++ b ∷ []) ++ cs) last
    ∙ ap (λ m. (zero_padded places m ++ c ∷ []) ++ cs) front
    ∙ append_assoc (zero_padded places n) (c ∷ []) cs

pub zero_padded-digits_value : (ds : List ℕ) → all_ascii_digits ds ≡ true → zero_padded (length ds) (digits_value 10 ds) ≡ ds
zero_padded-digits_value ds digits = ap (λ k. zero_padded k (digits_value 10 ds)) (sym (add-zero (length ds))) ∙ zero_padded-after 0 0 ds digits
