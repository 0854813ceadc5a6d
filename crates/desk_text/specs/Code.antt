-- Codes, and the numbers of exemptions: short words over an alphabet.
use Rattle.std.specs.Prelude.{ℕ, Bool, not, ◌||◌, ◌==◌, List, length, codes, position, Option, None, Some, Result, Ok, Err, if◌then◌else◌, nat_lt}
use Rattle.std.specs.Cmp.Lexicographic.{slice_cmp}
use Rattle.std.specs.Char.{is_ascii_alphanumeric}
use Rattle.std.specs.List.{list_any}
use Rattle.std.specs.Ordering.{nat_cmp, eq_by_cmp}
use Rattle.std.specs.declared.cmp.Ordering.{Ordering}
use Rattle.desk_text.specs.declared.code.CodeFault.{CodeFault}
use Rattle.desk_text.specs.declared.code.CodeFault.TheVariants.{Empty, TooLong, BadByte}

-- the bytes, or a fault with the place of a byte that is outside the alphabet, where there is one
abbrev pub unless_bad : Option ℕ → List ℕ → Result (List ℕ) CodeFault
unless_bad None bytes = Ok bytes
unless_bad (Some at) bytes = Err (BadByte at)

-- the word that the bytes spell: 1 to `limit` bytes of the alphabet
abbrev pub word_of : (ℕ → Bool) → ℕ → List ℕ → Result (List ℕ) CodeFault
word_of alphabet limit bytes =
    if length bytes == 0 then Err Empty
    else (if nat_lt limit (length bytes) then Err TooLong
    else unless_bad (position (λ b. not (alphabet b)) bytes) bytes)

-- the byte is in the alphabet of codes: A-Z a-z 0-9 . _ -
abbrev pub is_code_byte : ℕ → Bool
is_code_byte b = is_ascii_alphanumeric b || list_any (λ c. b == c) (codes "._-")

-- the code that the bytes spell: 1 to 40 bytes
unfoldable pub code_of : List ℕ → Result (List ℕ) CodeFault
code_of = word_of is_code_byte 40

-- the byte is in the alphabet of exemption numbers: that of codes, and brackets
abbrev pub is_exemption_number_byte : ℕ → Bool
is_exemption_number_byte b = is_code_byte b || list_any (λ c. b == c) (codes "()")

-- the number of an exemption that the bytes spell: 1 to 20 bytes
unfoldable pub exemption_number_of : List ℕ → Result (List ℕ) CodeFault
exemption_number_of = word_of is_exemption_number_byte 20

-- codes and exemption numbers are ordered by their bytes
abbrev pub code_cmp : List ℕ → List ℕ → Ordering
code_cmp = slice_cmp nat_cmp

-- the two are the same code
abbrev pub same_code : List ℕ → List ℕ → Bool
same_code = eq_by_cmp code_cmp
