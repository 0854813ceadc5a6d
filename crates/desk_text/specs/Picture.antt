-- The form of a text, by a picture such as YYYY-MM-DD.
use Rattle.std.specs.Prelude.{ℕ, Bool, ◌==◌, List, if◌then◌else◌}
use Rattle.std.specs.Char.{is_ascii_alphabetic, is_ascii_digit}
use Rattle.std.specs.Cmp.Lexicographic.{pointwise}

-- the byte fits the place of a picture: a letter stands there for any digit, and any other byte for itself
abbrev pub fits_place : ℕ → ℕ → Bool
fits_place place b = if is_ascii_alphabetic place then is_ascii_digit b else b == place

-- the bytes fit the picture: there is one for each place of it, and it fits there
abbrev pub fits : List ℕ → List ℕ → Bool
fits picture bytes = pointwise fits_place picture bytes
