-- How a refused call is told.
use Rattle.std.specs.Prelude.{ℕ, List, codes}

-- the words of a refused call
abbrev pub failed_text : List ℕ
failed_text = codes "the call failed"
