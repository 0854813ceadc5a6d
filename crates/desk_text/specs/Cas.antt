-- CAS registry numbers, by the rules of the Chemical Abstracts Service.
use Rattle.std.specs.Prelude.{ℕ, ◌+◌, ◌-◌, ◌*◌, ◌%◌, Bool, not, ◌||◌, ◌==◌, List, [], ◌∷◌, length, map, filter, take}
use Rattle.std.specs.Prelude.{codes, slice_index, Result, Ok, Err, if◌then◌else◌}
use Rattle.std.specs.Char.{is_ascii_digit, digit_value}
use Rattle.desk_text.specs.Picture.{fits}
use Rattle.desk_text.specs.declared.cas.CasFault.{CasFault}
use Rattle.desk_text.specs.declared.cas.CasFault.TheVariants.{Shape, CheckDigit}

-- two to seven digits, a hyphen, two digits, a hyphen and the check digit
abbrev pub has_cas_shape : List ℕ → Bool
has_cas_shape bytes =
    fits (codes "NN-NN-N") bytes || fits (codes "NNN-NN-N") bytes || fits (codes "NNNN-NN-N") bytes
    || fits (codes "NNNNN-NN-N") bytes || fits (codes "NNNNNN-NN-N") bytes || fits (codes "NNNNNNN-NN-N") bytes

-- the digits of a text, from the left
abbrev pub digits_of : List ℕ → List ℕ
digits_of bytes = map digit_value (filter is_ascii_digit bytes)

-- the sum of each digit times its place from the right, where the last has place 1
abbrev pub weighted_sum : List ℕ → ℕ
weighted_sum [] = 0
weighted_sum (d ∷ ds) = d * length (d ∷ ds) + weighted_sum ds

-- the check digit of a number whose last byte is left out
abbrev pub check_digit : List ℕ → ℕ
check_digit bytes = weighted_sum (digits_of bytes) % 10

-- the CAS registry number that the bytes spell: they have the shape of one, and the check digit is right
unfoldable pub cas_of : List ℕ → Result (List ℕ) CasFault
cas_of bytes =
    let last = length bytes - 1 in
    if not (has_cas_shape bytes) then Err Shape
    else (if digit_value (slice_index bytes last) == check_digit (take last bytes) then Ok bytes else Err CheckDigit)
