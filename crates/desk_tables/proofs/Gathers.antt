-- Tables that are put together row by row.
use Rattle.std.proofs.Common.{◌≡◌, List, [], ◌∷◌, ◌++◌, refl}
use Rattle.desk_model.specs.declared.row.Row.{Row}
use Rattle.desk_model.specs.Lists.{Lists}
use Rattle.desk_model.specs.PutRows.{put_in}
use Rattle.desk_tables.specs.Gathered.{tables_of_rows, no_rows, with_all}

with_all-append : (first second : List Row) (t : Lists) → with_all (first ++ second) t ≡ with_all second (with_all first t)
with_all-append [] second t = refl
with_all-append (row ∷ first) second t = with_all-append first second (put_in row t)

-- one row more is put into the tables of those before it
pub gathered_last : (rows : List Row) (row : Row) → tables_of_rows (rows ++ row ∷ []) ≡ put_in row (tables_of_rows rows)
gathered_last rows row = with_all-append rows (row ∷ []) no_rows
