-- Look-ups in rows after others are put in.
use Rattle.std.specs.Prelude.{List, [], ◌∷◌, Option, Some, None, if◌then◌else◌}
use Rattle.std.specs.declared.cmp.Ordering.{Ordering}
use Rattle.std.specs.Option.{option_or}
use Rattle.std.specs.Ordering.{is_eq}

module _ {R K : Type 0} (key : R → K) (cmp : K → K → Ordering) where
  -- the row, if it has the key
  abbrev pub row_if : K → R → Option R
  row_if k row = if is_eq (cmp (key row) k) then Some row else None

  -- the last row with the key, if the list has one
  abbrev pub last_of : K → List R → Option R
  last_of k [] = None
  last_of k (row ∷ rows) = option_or (last_of k rows) (row_if k row)
