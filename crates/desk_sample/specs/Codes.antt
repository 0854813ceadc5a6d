-- The codes of a sample.
use Rattle.std.specs.Prelude.{ℕ, ◌+◌, ◌/◌, ◌%◌, List, [], ◌∷◌, ◌++◌, codes, decimal}

-- the last digit of a number
abbrev pub digit : ℕ → ℕ
digit n = 48 + n % 10

-- a letter, and the last four digits of a number with zeros in front
abbrev pub letter_code : ℕ → ℕ → List ℕ
letter_code letter n = letter ∷ digit (n / 1000) ∷ digit (n / 100) ∷ digit (n / 10) ∷ digit n ∷ []

-- the code of a material: M, and four digits
abbrev pub material_code : ℕ → List ℕ
material_code = letter_code 77

-- the code of an article: A, and four digits
abbrev pub article_code : ℕ → List ℕ
article_code = letter_code 65

-- the code of an assembly: B, and four digits
abbrev pub assembly_code : ℕ → List ℕ
assembly_code = letter_code 66

-- one of seven suppliers: S, and the remainder of the number
abbrev pub supplier : ℕ → List ℕ
supplier n = 83 ∷ digit (n % 7) ∷ []

-- the ticket of an edit that is no declaration: s, and its number among these
abbrev pub ticket : ℕ → List ℕ
ticket number = codes "s" ++ decimal number
