-- How many rows there are with others put in: those that weren't there come on top.
use Rattle.std.proofs.Common.{◌≡◌, ℕ, ◌+◌, ◌≤◌, false, List, [], ◌∷◌, length, refl, sym, ap, ◌∙◌, Ordering, Less, Equal, Greater, is_eq, is_some, sum_by, take, if◌then◌else◌, arith}
use Rattle.std.specs.Cmp.{IsTotalOrder}
use Rattle.desk_rows.specs.Rows.{IsByKey, row_of, with_row, with_rows}
use Rattle.std.proofs.lemmas.List.Sums.{sum_by-cons}
use Rattle.desk_rows.proofs.Edits.{IsByKey-with_row}
use Rattle.desk_rows.proofs.Lookups.{row_of-with_row_other}
use Rattle.desk_tables.proofs.Taken.{take_whole}
use Rattle.desk_rows.proofs.Order.{AllAbove, AllAbove-down, first_above, less_back, rest_by_key, row_of-above}

-- 1 for a row whose key isn't there, and 0 for any other
abbrev pub is_new : {R K : Type 0} (key : R → K) (cmp : K → K → Ordering) → List R → R → ℕ
is_new key cmp rows row = if is_some (row_of key cmp (key row) rows) then 0 else 1

module _ {R K : Type 0} (key : R → K) (cmp : K → K → Ordering) (o : IsTotalOrder cmp) where
  one_step : (new row : R) (rows : List R) (a : Ordering) → cmp (key row) (key new) ≡ a → IsByKey key cmp (row ∷ rows) → length (with_row key cmp new rows) ≡ length rows + is_new key cmp rows new → length (with_row key cmp new (row ∷ rows)) ≡ length (row ∷ rows) + is_new key cmp (row ∷ rows) new
  one_step new row rows Less e h ih = rw e (omega (arith, ih))
  one_step new row rows Equal e h ih = rw e (omega arith)
  one_step new row rows Greater e h ih =
      let above = AllAbove-down key cmp o (key new) (key row) rows (less_back key cmp o (key row) (key new) e) (first_above key cmp o row rows h) in
      rw e (rw (row_of-above key cmp o (key new) rows above) (omega arith))

  pub one_more : (new : R) (rows : List R) → IsByKey key cmp rows → length (with_row key cmp new rows) ≡ length rows + is_new key cmp rows new
  one_more new [] h = refl
  one_more new (row ∷ rows) h = one_step new row rows (cmp (key row) (key new)) refl h (one_more new rows (rest_by_key key cmp o row rows h))

  same_new : (new : R) (rows more : List R) → AllAbove key cmp o (key new) more → sum_by (is_new key cmp (with_row key cmp new rows)) more ≡ sum_by (is_new key cmp rows) more
  same_new new rows [] a = refl
  same_new new rows (row ∷ more) a =
      let other : is_eq (cmp (key new) (key row)) ≡ false = ap is_eq a.0 in
      sum_by-cons (is_new key cmp (with_row key cmp new rows)) row more
      ∙ ap (λ found. (if is_some found then 0 else 1) + sum_by (is_new key cmp (with_row key cmp new rows)) more) (row_of-with_row_other key cmp o new (key row) rows other)
      ∙ ap (λ sum. is_new key cmp rows row + sum) (same_new new rows more a.1)
      ∙ sym (sum_by-cons (is_new key cmp rows) row more)

  pub all_more : (more rows : List R) → IsByKey key cmp rows → IsByKey key cmp more → length (with_rows key cmp more rows) ≡ length rows + sum_by (is_new key cmp rows) more
  all_more [] rows h m = omega arith
  all_more (new ∷ more) rows h m =
      let rest = all_more more (with_row key cmp new rows) (IsByKey-with_row key cmp o new rows h) (rest_by_key key cmp o new more m) in
      let same = same_new new rows more (first_above key cmp o new more m) in
      let one = one_more new rows h in
      omega (arith, rest, same, one, sum_by-cons (is_new key cmp rows) new more)

  pub counted : (more rows : List R) (count i : ℕ) → IsByKey key cmp rows → IsByKey key cmp more → length more ≤ i → count ≡ length rows + sum_by (is_new key cmp rows) (take i more) → count ≡ length (with_rows key cmp more rows)
  counted more rows count i h m l e =
      e ∙ ap (λ taken. length rows + sum_by (is_new key cmp rows) taken) (take_whole more i l) ∙ sym (all_more more rows h m)
