-- The first row past a key stands where the rows stop to be at or before it.
use Rattle.std.proofs.Common.{◌≡◌, ℕ, zero, suc, ◌≤◌, ◌<◌, Bool, true, false, List, [], ◌∷◌, length, refl, ap, sym, ◌∙◌, arith, get_or, Ordering, Less, Equal, Greater, slice_get}
use Rattle.std.specs.Cmp.{IsTotalOrder}
use Rattle.std.specs.List.{find}
use Rattle.std.specs.List.Sorted.{IsPartitionPoint, IsPartitionedBy}
use Rattle.std.specs.Ordering.{is_le, is_lt, ordering_reverse}
use Rattle.std.proofs.lemmas.Bool.{false≢true, true≢false}
use Rattle.desk_rows.specs.Rows.{IsByKey}
use Rattle.desk_rows.proofs.Order.{AllAbove, AllAbove-down, first_above, greater_back, less_back, rest_by_key}

module _ {R K : Type 0} (key : R → K) (cmp : K → K → Ordering) (o : IsTotalOrder cmp) (k : K) where
  is_past : R → Bool
  is_past row = is_lt (cmp k (key row))

  is_not_past : R → Bool
  is_not_past row = is_le (cmp (key row) k)

  past_at : (rows : List R) → AllAbove key cmp o k rows → (j : ℕ) (d : R) → j < length rows → is_not_past (get_or rows j d) ≡ false
  unfolding is_not_past
  past_at [] above j d l = absurd (omega (arith, l))
  past_at (row ∷ rows) above zero d l = ap is_le (greater_back key cmp o k (key row) above.0)
  past_at (row ∷ rows) above (suc j) d l = past_at rows above.1 j d (omega (arith, l))

  -- a row in front of one that isn't past the key isn't past it
  first_is_not_past : (row : R) (rows : List R) (a : Ordering) → cmp (key row) k ≡ a → IsByKey key cmp (row ∷ rows) → (j : ℕ) (d : R) → j < length rows → is_not_past (get_or rows j d) ≡ true → is_not_past row ≡ true
  unfolding is_not_past
  first_is_not_past row rows Less e h j d l passes = ap is_le e
  first_is_not_past row rows Equal e h j d l passes = ap is_le e
  first_is_not_past row rows Greater e h j d l passes =
      absurd (false≢true (sym (past_at rows (AllAbove-down key cmp o k (key row) rows (less_back key cmp o (key row) k e) (first_above key cmp o row rows h)) j d l) ∙ passes))

  in_two : (rows : List R) → IsByKey key cmp rows → IsPartitionedBy is_not_past rows
  in_two [] h i j d l m passes = absurd (omega (arith, m))
  in_two (row ∷ rows) h zero zero d l m passes = passes
  in_two (row ∷ rows) h (suc i) zero d l m passes = absurd (omega (arith, l))
  in_two (row ∷ rows) h zero (suc j) d l m passes = first_is_not_past row rows (cmp (key row) k) refl h j d (omega (arith, m)) passes
  in_two (row ∷ rows) h (suc i) (suc j) d l m passes = in_two rows (rest_by_key key cmp o row rows h) i j d (omega (arith, l)) (omega (arith, m)) passes

  past_where_not : (row : R) (a : Ordering) → cmp (key row) k ≡ a → is_not_past row ≡ false → is_past row ≡ true
  unfolding is_past is_not_past
  past_where_not row Less e h = absurd (true≢false (sym (ap is_le e) ∙ h))
  past_where_not row Equal e h = absurd (true≢false (sym (ap is_le e) ∙ h))
  past_where_not row Greater e h = ap is_lt (less_back key cmp o (key row) k e)

  not_where_not : (row : R) (a : Ordering) → cmp (key row) k ≡ a → is_not_past row ≡ true → is_past row ≡ false
  unfolding is_past is_not_past
  not_where_not row Less e h = ap is_lt (greater_back key cmp o (key row) k e)
  not_where_not row Equal e h = ap is_lt (o.antisymm k (key row) ∙ ap ordering_reverse e)
  not_where_not row Greater e h = absurd (false≢true (sym (ap is_le e) ∙ h))

  at_point : (rows : List R) (i : ℕ) → i ≤ length rows → IsPartitionPoint (λ row. is_not_past row ≡ true) (λ row. is_not_past row ≡ false) rows i → slice_get rows i ≡ find is_past rows
  at_point [] i b p = refl
  at_point (row ∷ rows) zero b p = rw (past_where_not row (cmp (key row) k) refl (p.1 0 row (omega arith) (omega arith))) refl
  at_point (row ∷ rows) (suc i) b p =
      rw (not_where_not row (cmp (key row) k) refl (p.0 0 row (omega arith) (omega arith)))
      (at_point rows i (omega (arith, b)) ((λ n d l m. p.0 (suc n) d (omega arith) (omega (arith, m))), (λ n d l m. p.1 (suc n) d (omega (arith, l)) (omega (arith, m)))))

  pub found_at : (rows : List R) → IsByKey key cmp rows → (i : ℕ) → i ≤ length rows
      → (IsPartitionedBy (λ row. is_le (cmp (key row) k)) rows → IsPartitionPoint (λ row. is_le (cmp (key row) k) ≡ true) (λ row. is_le (cmp (key row) k) ≡ false) rows i)
      → slice_get rows i ≡ find (λ row. is_lt (cmp k (key row))) rows
  unfolding is_past is_not_past
  found_at rows h i bound point = at_point rows i bound (point (in_two rows h))
