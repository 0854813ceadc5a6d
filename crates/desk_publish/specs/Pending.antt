-- How the lists that wait lead from what is published to the whole list. Each is the list before it and one entry more.
use Rattle.std.specs.Prelude.{◌≡◌, ◌==◌, ◌+◌, List, [], ◌∷◌, ◌++◌, length, fold, Option, None, Some, if◌then◌else◌}
use mathlib.Core.List.{IsPrefix}

-- the last entry of the list is this one
abbrev pub IsEndedBy : {E : Type 0} → List E → E → Type 0
IsEndedBy {E} list entry = (before : List E) × (list ≡ before ++ entry ∷ [])

-- the next list, where it has one entry more
abbrev pub next_list : {E : Type 0} → List E → List E → List E
next_list list next = if (length list + 1 == length next) then next else list

-- the list that waits, if there is one
abbrev pub listed : {E : Type 0} → Option (List E) → List (List E)
listed None = []
listed (Some list) = list ∷ []

-- the whole list begins with what is published, and what is pending leads to it
pub record IsUnderWay {E : Type 0} (published : List E) (pending : List (List E)) (whole : List E) : Type 0 where
  pub begins : IsPrefix published whole
  pub leads : fold next_list published pending ≡ whole
