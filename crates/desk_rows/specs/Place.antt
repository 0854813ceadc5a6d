-- What a search tells of a place in a list of rows by key.
use Rattle.std.specs.Prelude.{◌≡◌, ℕ, ◌+◌, ◌<◌, ◌≤◌, List, length, slice_index_or, slice_set, Some, None, insert, remove}
use Rattle.std.specs.declared.cmp.Ordering.{Ordering}
use Rattle.desk_rows.specs.Rows.{IsByKey, row_of, with_row, without_row}

module _ {R K : Type 0} (key : R → K) (cmp : K → K → Ordering) where
  -- the row of this key stands at the place: there it is found, from there it is taken out, and there a row of the same key
  -- takes its place
  pub record StandsAt (k : K) (rows : List R) (place : ℕ) : Type 0 where
    pub within : place < length rows
    pub found : (d : R) → row_of key cmp k rows ≡ Some (slice_index_or rows place d)
    pub taken : without_row key cmp k rows ≡ remove rows place
    pub by_key : IsByKey key cmp (remove rows place)
    pub put : (new : R) → key new ≡ k → with_row key cmp new rows ≡ slice_set rows place new

  -- no row has this key, and a new row of the key belongs before the row that stands at the place
  pub record StandsNowhere (k : K) (rows : List R) (place : ℕ) : Type 0 where
    pub within : place ≤ length rows
    pub absent : row_of key cmp k rows ≡ None
    pub same : without_row key cmp k rows ≡ rows
    pub put : (new : R) → key new ≡ k → with_row key cmp new rows ≡ insert rows place new

  -- a row with the new row's key stands at the place, and the new row takes its place
  pub record Replaces (new : R) (rows : List R) (place : ℕ) : Type 0 where
    pub within : place < length rows
    pub found : (d : R) → row_of key cmp (key new) rows ≡ Some (slice_index_or rows place d)
    pub put : with_row key cmp new rows ≡ slice_set rows place new
    pub count : length (with_row key cmp new rows) ≡ length rows
    pub by_key : IsByKey key cmp (slice_set rows place new)

  -- no row has the new row's key, and the new row belongs before the row that stands at the place
  pub record Enters (new : R) (rows : List R) (place : ℕ) : Type 0 where
    pub within : place ≤ length rows
    pub absent : row_of key cmp (key new) rows ≡ None
    pub put : with_row key cmp new rows ≡ insert rows place new
    pub count : length (with_row key cmp new rows) ≡ length rows + 1
    pub by_key : IsByKey key cmp (insert rows place new)
    pub undone : without_row key cmp (key new) (insert rows place new) ≡ rows
