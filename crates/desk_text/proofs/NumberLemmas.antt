-- Texts of decimal digits.
use Rattle.std.proofs.Common.{◌≡◌, ℕ, ◌^◌, ◌<◌, ◌≤◌, true, Result, Ok, Err, List, length, arith}
use Rattle.std.specs.Prelude.{IsUtf8}
use Rattle.std.proofs.lemmas.Bool.Decides.{nat_tests}
use Rattle.std.proofs.lemmas.Fmt.{IsAscii-from_digits}
use Rattle.std.proofs.lemmas.Str.{IsUtf8-from_ascii}
use Rattle.std.proofs.lemmas.Str.Parse.{IsNumeralModel, numerals_by_value, tells_all_ascii_digits, digits_value_short, parse_digits, parse_gives}
use Rattle.std.specs.Result.{MatchResult, OkIff}
use Rattle.std.specs.Str.{all_ascii_digits}
use Rattle.std.specs.Str.Parse.{digits_value, ParsesUnsigned}
use Rattle.desk_text.specs.Number.{is_numeral, number_below}
use Rattle.desk_text.specs.declared.number.NumberFault.{NumberFault}
use Rattle.desk_text.specs.declared.number.NumberFault.TheVariants.{TooBig}

-- the words of the definitions are those of std's parser
pub decimal_model : IsNumeralModel (λ ds. all_ascii_digits ds ≡ true) (digits_value 10)
decimal_model = numerals_by_value (λ ds. all_ascii_digits ds ≡ true) tells_all_ascii_digits

-- digits are a text
pub IsUtf8-digits : (ds : List ℕ) → all_ascii_digits ds ≡ true → IsUtf8 ds
IsUtf8-digits ds digits = IsUtf8-from_ascii ds (IsAscii-from_digits ds (decimal_model.to ds digits))

-- a numeral has digits alone, and one at least
pub digits-is_numeral : (bytes : List ℕ) → is_numeral bytes ≡ true → (all_ascii_digits bytes ≡ true) × (0 < length bytes)
digits-is_numeral bytes numeral = (grind (arith, nat_tests), grind (arith, nat_tests))

-- what std's parser reads of a numeral at an unsigned type of k bits, with its one fault named
pub number_below-parsed : {E : Type 0} (k : ℕ) (bytes : List ℕ) (parsed : Result ℕ E) (result : Result ℕ NumberFault) → is_numeral bytes ≡ true → ParsesUnsigned k 10 bytes parsed → MatchResult parsed (λ n. result ≡ Ok n) (λ _. result ≡ Err TooBig) → result ≡ number_below (2 ^ k) bytes
unfolding number_below
number_below-parsed {E} k bytes parsed result numeral parses named = by parsed (parse_digits decimal_model k bytes parsed parses digits.0) named
  where
    digits : (all_ascii_digits bytes ≡ true) × (0 < length bytes)
    digits = digits-is_numeral bytes numeral

    by : (r : Result ℕ E) → OkIff r ((0 < length bytes) × (digits_value 10 bytes < 2 ^ k)) (digits_value 10 bytes) → MatchResult r (λ n. result ≡ Ok n) (λ _. result ≡ Err TooBig) → result ≡ number_below (2 ^ k) bytes
    by (Ok n) value is_ok = rw numeral (grind (arith, nat_tests))
    by (Err e) too_big is_err = rw numeral (grind (arith, nat_tests, too_big))

-- up to four digits fit 16 bits
pub short_value-parsed : {E : Type 0} (ds : List ℕ) (parsed : Result ℕ E) → all_ascii_digits ds ≡ true → 0 < length ds → length ds ≤ 4 → ParsesUnsigned 16 10 ds parsed → parsed ≡ Ok (digits_value 10 ds)
short_value-parsed ds parsed digits nonempty short parses =
    parse_gives decimal_model 16 ds parsed parses digits nonempty (omega (arith, digits_value_short decimal_model ds 4 digits short))
