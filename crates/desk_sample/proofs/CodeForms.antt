-- The codes of a sample are codes.
use Rattle.std.proofs.Common.{◌≡◌, ℕ, suc, ◌+◌, ◌<◌, ◌≤◌, ◌^◌, true, false, not, cond, Some, None, Result, Ok, Err, List, [], ◌∷◌, length, position, refl, ap, ◌∙◌, arith}
use Rattle.std.specs.Prelude.{◌==◌, decimal, nat_lt, if◌then◌else◌}
use Rattle.std.specs.Char.{is_ascii_digit}
use Rattle.std.specs.Cmp.{first_so, second_so}
use Rattle.std.specs.List.{AllByRecursion, position_or_len}
use Rattle.std.specs.Str.{all_ascii_digits}
use Rattle.std.proofs.lemmas.Bool.Decides.{nat_tests}
use Rattle.std.proofs.lemmas.Fmt.{decimal_is_IsNumeral, length-decimal-le}
use Rattle.desk_text.specs.Code.{code_of, is_code_byte, unless_bad}
use Rattle.desk_text.specs.declared.code.CodeFault.TheVariants.{Empty, TooLong}
use Rattle.desk_text.proofs.NumberLemmas.{decimal_model}
use Rattle.desk_sample.specs.Codes.{ticket}

-- each of the bytes is one of codes
abbrev pub AreGood : List ℕ → Type 0
AreGood = AllByRecursion (λ b. is_code_byte b ≡ true)

one_more : (n : ℕ) → 1 + n ≡ suc n
one_more n = omega arith

none_bad : (bytes : List ℕ) → AreGood bytes → position_or_len (λ b. not (is_code_byte b)) bytes ≡ length bytes
none_bad [] good = refl
none_bad (b ∷ bytes) good =
    ap (λ g. cond (not (not g)) (1 + position_or_len (λ b. not (is_code_byte b)) bytes) 0) good.0
    ∙ ap (λ n. 1 + n) (none_bad bytes good.1)
    ∙ one_more (length bytes)

lt_itself : (n : ℕ) → nat_lt n n ≡ false
lt_itself n = grind (arith, nat_tests)

-- a few of them are a code
pub good_code : (bytes : List ℕ) → AreGood bytes → 0 < length bytes → length bytes ≤ 40 → code_of bytes ≡ Ok bytes
unfolding code_of
good_code bytes good some few =
    let filled : (length bytes == 0) ≡ false = grind (arith, nat_tests) in
    let short : nat_lt 40 (length bytes) ≡ false = grind (arith, nat_tests) in
    let none : position (λ b. not (is_code_byte b)) bytes ≡ None =
    ap (λ n. cond (nat_lt n (length bytes)) (Some n) None) (none_bad bytes good) ∙ ap (λ b. cond b (Some (length bytes)) None) (lt_itself (length bytes)) in
    λ i. if filled i then Err Empty else (if short i then Err TooLong else unless_bad (none i) bytes)

digit_good : (b : ℕ) → is_ascii_digit b ≡ true → is_code_byte b ≡ true
digit_good b e = grind (arith, nat_tests)

digits_good : (ds : List ℕ) → all_ascii_digits ds ≡ true → AreGood ds
digits_good [] e = tt
digits_good (d ∷ ds) e = (digit_good d (first_so (is_ascii_digit d) (all_ascii_digits ds) e), digits_good ds (second_so (is_ascii_digit d) (all_ascii_digits ds) e))

-- five such bytes
pub five_good : (a b c d e : ℕ) → is_code_byte a ≡ true → is_code_byte b ≡ true → is_code_byte c ≡ true → is_code_byte d ≡ true → is_code_byte e ≡ true
    → code_of (a ∷ b ∷ c ∷ d ∷ e ∷ []) ≡ Ok (a ∷ b ∷ c ∷ d ∷ e ∷ [])
five_good a b c d e ga gb gc gd ge = good_code (a ∷ b ∷ c ∷ d ∷ e ∷ []) (ga, (gb, (gc, (gd, (ge, tt))))) (omega arith) (omega arith)

-- two such bytes
pub two_good : (a b : ℕ) → is_code_byte a ≡ true → is_code_byte b ≡ true → code_of (a ∷ b ∷ []) ≡ Ok (a ∷ b ∷ [])
two_good a b ga gb = good_code (a ∷ b ∷ []) (ga, (gb, tt)) (omega arith) (omega arith)

-- a ticket
pub ticket_good : (n : ℕ) → n < 2 ^ 64 → code_of (ticket n) ≡ Ok (ticket n)
ticket_good n small =
    good_code (ticket n)
    (refl, digits_good (decimal n) (decimal_model.from (decimal n) (decimal_is_IsNumeral n small).0.1))
    (omega arith)
    (let short : length (decimal n) ≤ 20 = length-decimal-le 20 n (omega arith) (omega (arith, small)) small in omega (arith, short))

-- a digit
pub digit_byte : (m : ℕ) → m < 10 → is_code_byte (48 + m) ≡ true
digit_byte m small = grind (arith, nat_tests)

-- what is in a result is what is known to be in it
pub inside_ok : {X F : Type 0} (x y : X) (read : Result X F) → read ≡ Ok x → read ≡ Ok y → x ≡ y
inside_ok x y read e f = cc
