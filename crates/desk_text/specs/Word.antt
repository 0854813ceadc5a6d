-- A short text in the places of an array.
use Rattle.std.specs.Prelude.{◌≡◌, ℕ, zero, suc, ◌+◌, ◌-◌, ◌*◌, ◌≤◌, List, [], ◌∷◌, length, take, drop, replicate}
use Rattle.std.specs.Str.{IsAscii}

-- of the places of an array, the first `len` hold an ASCII text, and the others hold zero
pub record IsPadded (capacity len : ℕ) (places : List ℕ) : Type 0 where
  pub size : length places ≡ capacity
  pub fits : len ≤ capacity
  pub ascii : IsAscii (take len places)
  pub padding : drop len places ≡ replicate (capacity - len) 0

-- the first bytes of a text as one number, in which an earlier byte counts for more, behind the number of what stands before
-- them; zero stands in the place of each byte that the text lacks
abbrev pub first_bytes : ℕ → ℕ → List ℕ → ℕ
first_bytes zero before text = before
first_bytes (suc count) before [] = first_bytes count (before * 256) []
first_bytes (suc count) before (byte ∷ text) = first_bytes count (before * 256 + byte) text
