-- Numbers as decimal digits.
use Rattle.std.specs.Prelude.{ℕ, Bool, not, ◌&&◌, ◌==◌, List, length, codes, Result, Ok, Err, if◌then◌else◌, nat_eq, nat_lt}
use Rattle.std.specs.List.{starts_with}
use Rattle.std.specs.Str.{all_ascii_digits}
use Rattle.std.specs.Str.Parse.{digits_value}
use Rattle.desk_text.specs.declared.number.NumberFault.{NumberFault}
use Rattle.desk_text.specs.declared.number.NumberFault.TheVariants.{Shape, TooBig}

-- decimal digits, at least one, and no zero before another digit
abbrev pub is_numeral : List ℕ → Bool
is_numeral bytes =
    all_ascii_digits bytes && not (length bytes == 0) && not (nat_lt 1 (length bytes) && starts_with nat_eq bytes (codes "0"))

-- the number that the bytes write, if it is below the bound
unfoldable pub number_below : ℕ → List ℕ → Result ℕ NumberFault
number_below bound bytes =
    if not (is_numeral bytes) then Err Shape
    else (if nat_lt (digits_value 10 bytes) bound then Ok (digits_value 10 bytes) else Err TooBig)
