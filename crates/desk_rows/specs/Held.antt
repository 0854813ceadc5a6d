-- A table as contracts see it: its rows, and the room that it has for more.
use Rattle.std.specs.Prelude.{◌≡◌, ℕ, ◌+◌, ◌≤◌, List, [], Option, Some, None, length}

-- the rows of a table, and how many more of them it takes without memory
pub record Held (R : Type 0) : Type 0 where
  pub rows : List R
  pub room : ℕ

-- so many more rows need no memory: the table has room for them, or another list, of this capacity, has room for them and for all
-- rows of the table
abbrev pub IsRoomFor : {R : Type 0} → ℕ → Held R → Option ℕ → Type 0
IsRoomFor more held None = more ≤ held.room
IsRoomFor more held (Some capacity) = length held.rows + more ≤ capacity

-- a list that is to take a table's place has no rows yet
abbrev pub IsFresh : {R : Type 0} → Option (List R) → Type 0
IsFresh None = Unit {0}
IsFresh (Some rows) = rows ≡ []
