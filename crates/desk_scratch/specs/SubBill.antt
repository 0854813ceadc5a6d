-- What is found going down from a part.
use Rattle.std.specs.Prelude.{◌≡◌, ℕ, List, length, map, take}
use Rattle.desk_model.specs.Lists.{Lists}

-- tables, and the codes of materials and parts that were found in them
pub record Found : Type 0 where
  pub lists : Lists
  pub codes : List (List ℕ)

-- each amount is that of the code at its place; the last codes may have none yet
abbrev pub AreOf : (List ℕ → ℕ) → List ℕ → List (List ℕ) → Type 0
AreOf amount amounts codes = amounts ≡ map amount (take (length amounts) codes)
