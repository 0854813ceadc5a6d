-- Lists of rows by key: the row of a key, the list with a row in its place, and the list without a key's row.
-- `key` gives a row's key, and `cmp` is the order of the keys.
use Rattle.std.specs.Prelude.{List, [], ◌∷◌, Option, Some, None, map, if◌then◌else◌}
use Rattle.std.specs.declared.cmp.Ordering.{Ordering}
use Rattle.std.specs.Ordering.{is_eq, match_ordering}
use Rattle.std.specs.List.Sorted.{IsStrictlySortedBy}

module _ {R K : Type 0} (key : R → K) (cmp : K → K → Ordering) where
  -- the keys rise along the list, so that no key stands twice
  abbrev pub IsByKey : List R → Type 0
  IsByKey rows = IsStrictlySortedBy cmp (map key rows)

  -- the row with this key, if the list has one
  abbrev pub row_of : K → List R → Option R
  row_of k [] = None
  row_of k (row ∷ rows) = if is_eq (cmp (key row) k) then Some row else row_of k rows

  -- the list with the new row: in the place of the row with its key, or else before the first row with a greater key
  abbrev pub with_row : R → List R → List R
  with_row new [] = new ∷ []
  with_row new (row ∷ rows) = match_ordering (cmp (key row) (key new)) (row ∷ with_row new rows) (new ∷ rows) (new ∷ row ∷ rows)

  -- the list with each of the new rows, one after the other
  abbrev pub with_rows : List R → List R → List R
  with_rows [] rows = rows
  with_rows (new ∷ more) rows = with_rows more (with_row new rows)

  -- the list without the row of this key
  abbrev pub without_row : K → List R → List R
  without_row k [] = []
  without_row k (row ∷ rows) = if is_eq (cmp (key row) k) then rows else row ∷ without_row k rows
