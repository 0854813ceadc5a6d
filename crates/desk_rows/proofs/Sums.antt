-- Sums over the rows, after a row is put in or a key's row is taken out.
use Rattle.std.proofs.Common.{◌≡◌, ℕ, ◌+◌, ◌≤◌, Bool, true, false, cond, List, [], ◌∷◌, filter, sum_by, refl, Ordering, Less, Equal, Greater, is_eq, Some, None, arith}
use Rattle.std.specs.Ordering.{match_ordering}
use Rattle.std.specs.Option.{option_map_or}
use Rattle.std.specs.Cmp.{IsTotalOrder}
use Rattle.std.proofs.lemmas.List.Sums.{sum_by-cons}
use Rattle.desk_rows.specs.Rows.{IsByKey, row_of, with_row, without_row}
use Rattle.desk_rows.proofs.Order.{AllAbove-down, first_above, less_back, rest_by_key, row_of-above}

-- a sum over the rows that pass a test
pub sum_by-filter : {R : Type 0} (test : R → Bool) (f : R → ℕ) (rows : List R) → sum_by f (filter test rows) ≡ sum_by (λ row. cond (test row) (f row) 0) rows
sum_by-filter test f [] = refl
sum_by-filter test f (row ∷ rows) =
    let rest = sum_by-filter test f rows in
    let whole = sum_by-cons (λ r. cond (test r) (f r) 0) row rows in
    elim (test row) as (λ b. sum_by (λ r. cond (test r) (f r) 0) (row ∷ rows) ≡ cond b (f row) 0 + sum_by (λ r. cond (test r) (f r) 0) rows → sum_by f (cond b (row ∷ filter test rows) (filter test rows)) ≡ sum_by (λ r. cond (test r) (f r) 0) (row ∷ rows)) [
      | true ↦ λ e. omega (arith, e, rest, sum_by-cons f row (filter test rows))
      | false ↦ λ e. omega (arith, e, rest)
    ] whole

module _ {R K : Type 0} (key : R → K) (cmp : K → K → Ordering) where
  -- a sum without the row of a key, and what that row gave
  pub sum_by-without_row : (f : R → ℕ) (k : K) (rows : List R) → sum_by f (without_row key cmp k rows) + option_map_or f (row_of key cmp k rows) 0 ≡ sum_by f rows
  sum_by-without_row f k [] = refl
  sum_by-without_row f k (row ∷ rows) =
      elim (is_eq (cmp (key row) k)) as (λ b. sum_by f (cond b rows (row ∷ without_row key cmp k rows)) + option_map_or f (cond b (Some row) (row_of key cmp k rows)) 0 ≡ sum_by f (row ∷ rows)) [
        | true ↦ omega (arith, sum_by-cons f row rows)
        | false ↦ omega (arith, sum_by-cons f row rows, sum_by-cons f row (without_row key cmp k rows), sum_by-without_row f k rows)
      ]

  -- so it is no greater
  pub sum_by-without_row-le : (f : R → ℕ) (k : K) (rows : List R) → sum_by f (without_row key cmp k rows) ≤ sum_by f rows
  sum_by-without_row-le f k rows = omega (arith, sum_by-without_row f k rows)

  module _ (o : IsTotalOrder cmp) where
    -- a sum with a new row in the place of the one of its key
    pub sum_by-put : (f : R → ℕ) (new : R) (rows : List R) → IsByKey key cmp rows → sum_by f (with_row key cmp new rows) + option_map_or f (row_of key cmp (key new) rows) 0 ≡ f new + sum_by f rows
    sum_by-put f new [] h = omega (arith, sum_by-cons f new [])
    sum_by-put f new (row ∷ rows) h =
        elim (cmp (key row) (key new)) as (λ a. cmp (key row) (key new) ≡ a → sum_by f (match_ordering a (row ∷ with_row key cmp new rows) (new ∷ rows) (new ∷ row ∷ rows)) + option_map_or f (cond (is_eq a) (Some row) (row_of key cmp (key new) rows)) 0 ≡ f new + sum_by f (row ∷ rows)) [
          | Less ↦ λ e. omega (arith, sum_by-cons f row (with_row key cmp new rows), sum_by-cons f row rows, sum_by-put f new rows (rest_by_key key cmp o row rows h))
          | Equal ↦ λ e. omega (arith, sum_by-cons f new rows, sum_by-cons f row rows)
          | Greater ↦
              λ e.
              let none : row_of key cmp (key new) rows ≡ None = row_of-above key cmp o (key new) rows (AllAbove-down key cmp o (key new) (key row) rows (less_back key cmp o (key row) (key new) e) (first_above key cmp o row rows h)) in
              let nothing : option_map_or f (row_of key cmp (key new) rows) 0 ≡ 0 = rw none refl in
              omega (arith, nothing, sum_by-cons f new (row ∷ rows))
        ] refl
