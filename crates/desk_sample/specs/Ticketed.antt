-- Edits that have their number as their ticket.
use Rattle.std.specs.Prelude.{◌≡◌, ℕ, ◌+◌, List, [], ◌∷◌, ◌++◌, length}
use Rattle.desk_model.specs.declared.edit.Edit.{Edit}
use Rattle.desk_sample.specs.Codes.{ticket}

-- what makes an edit of its ticket
abbrev pub Making : Type 0
Making = List ℕ → Edit

-- the edits that are made, with tickets from this number on
abbrev pub ticketed : ℕ → List Making → List Edit
ticketed number [] = []
ticketed number (make ∷ more) = make (ticket number) ∷ ticketed (number + 1) more

-- these edits went in behind, each with its number as its ticket
abbrev pub HasGainedAll : List Making → List Edit → List Edit → Type 0
HasGainedAll makes old new = new ≡ old ++ ticketed (length old + 1) makes

-- this edit went in behind, with its number as its ticket
abbrev pub HasGained : Making → List Edit → List Edit → Type 0
HasGained make = HasGainedAll (make ∷ [])
