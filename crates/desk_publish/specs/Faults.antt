-- How the faults of versions are told.
use Rattle.std.specs.Prelude.{ℕ, List, codes}
use Rattle.desk_publish.specs.declared.not_entered.NotEntered.{NotEntered}
use Rattle.desk_publish.specs.declared.not_entered.NotEntered.TheVariants.{Refused, Behind}

-- the words for want of memory
abbrev pub memory_words : List ℕ
memory_words = codes "out of memory"

-- the words for a look that wasn't let in
abbrev pub not_entered_words : NotEntered → List ℕ
not_entered_words Refused = codes "no board is shown"
not_entered_words Behind = codes "the board that is shown is older than what was learnt"
