-- A binary search of rows by key answers the place of the key.
use Rattle.std.proofs.Common.{◌≡◌, ℕ, zero, suc, ◌<◌, ◌≤◌, false, List, [], ◌∷◌, length, get_or, refl, sym, ap, ◌∙◌, Ordering, Less, Equal, Greater, is_lt, Result, Ok, Err, HoldsAt, IsSortedBy, subst, add-one, arith}
use Rattle.std.specs.Ordering.{match_ordering, ordering_index}
use Rattle.std.specs.Cmp.{IsTotalOrder}
use Rattle.std.specs.List.Sorted.{IsBinarySearchResult, IsSearchInRange, IsPartitionPoint}
use Rattle.std.proofs.lemmas.Cmp.{alike_right}
use Rattle.std.proofs.lemmas.List.Sorted.{searchable_from_sorted}
use Rattle.desk_rows.specs.Rows.{IsByKey}
use Rattle.desk_rows.proofs.Order.{AllAbove, first_above, rest_by_key, greater_back}

-- the same place, behind one more row
abbrev pub one_further : Result ℕ ℕ → Result ℕ ℕ
one_further (Ok at) = Ok (suc at)
one_further (Err at) = Err (suc at)

-- the place of the row with this key, or else the place where it would go
abbrev pub place_of : {R K : Type 0} (key : R → K) (cmp : K → K → Ordering) → K → List R → Result ℕ ℕ
place_of key cmp k [] = Err 0
place_of key cmp k (row ∷ rows) = match_ordering (cmp (key row) k) (one_further (place_of key cmp k rows)) (Ok 0) (Err 0)

module _ {R K : Type 0} (key : R → K) (cmp : K → K → Ordering) (o : IsTotalOrder cmp) where
  above_at : (k : K) (rows : List R) → AllAbove key cmp o k rows → (i : ℕ) (d : R) → i < length rows → cmp k (key (get_or rows i d)) ≡ Less
  above_at k [] a i d b = absurd (omega arith)
  above_at k (row ∷ rows) a zero d b = a.0
  above_at k (row ∷ rows) a (suc i) d b = above_at k rows a.1 i d (omega arith)

  neighbours : (rows : List R) → IsByKey key cmp rows → (i : ℕ) (d : R) → suc i < length rows → is_lt (cmp (key (get_or rows (suc i) d)) (key (get_or rows i d))) ≡ false
  neighbours [] h i d b = absurd (omega arith)
  neighbours (row ∷ rows) h zero d b = ap is_lt (greater_back key cmp o (key row) _ (above_at (key row) rows (first_above key cmp o row rows h) zero d (omega arith)))
  neighbours (row ∷ rows) h (suc i) d b = neighbours rows (rest_by_key key cmp o row rows h) i d (omega arith)

  sorted : (rows : List R) → IsByKey key cmp rows → IsSortedBy (λ a b. is_lt (cmp (key a) (key b))) rows
  sorted rows h i d a b = rw add-one (neighbours rows h i d (omega arith))

  place_of-found : (k : K) (rows : List R) (i : ℕ) → IsByKey key cmp rows → i < length rows → HoldsAt (λ row. cmp (key row) k ≡ Equal) rows i → place_of key cmp k rows ≡ Ok i
  place_of-found k [] i h b at = absurd (omega arith)
  place_of-found k (row ∷ rows) zero h b at = rw (at row) refl
  place_of-found k (row ∷ rows) (suc i) h b at =
      let below : cmp (key row) k ≡ Less = sym (alike_right o _ k (key row) (at row)) ∙ above_at (key row) rows (first_above key cmp o row rows h) i row (omega arith) in
      rw below (ap one_further (place_of-found k rows i (rest_by_key key cmp o row rows h) (omega arith) at))

  place_of-absent : (k : K) (rows : List R) (i : ℕ) → i ≤ length rows → IsPartitionPoint (λ row. cmp (key row) k ≡ Less) (λ row. cmp (key row) k ≡ Greater) rows i → place_of key cmp k rows ≡ Err i
  place_of-absent k [] zero b p = refl
  place_of-absent k [] (suc i) b p = absurd (omega arith)
  place_of-absent k (row ∷ rows) zero b p = rw (p.1 zero row (omega arith) (omega arith)) refl
  place_of-absent k (row ∷ rows) (suc i) b p =
      let later = place_of-absent k rows i (omega arith) (λ n d low high. p.0 (suc n) d (omega arith) (omega arith), λ n d low high. p.1 (suc n) d (omega arith) (omega arith)) in
      rw (p.0 zero row (omega arith) (omega arith)) (ap one_further later)

  -- what `binary_search_by` ensures makes its answer the place of the key
  pub place_from_search : (k : K) (rows : List R) (r : Result ℕ ℕ) → IsByKey key cmp rows → IsSearchInRange r (length rows) → IsBinarySearchResult (λ row. cmp (key row) k) rows r → r ≡ place_of key cmp k rows
  place_from_search k rows (Ok i) h b s = sym (place_of-found k rows i h b s)
  place_from_search k rows (Err i) h b s = sym (place_of-absent k rows i b (s (searchable_from_sorted o key rows k (sorted rows h))))

  least : (a : Ordering) → ordering_index a ≤ 0 → a ≡ Less
  least Less h = refl
  least Equal h = absurd (omega (arith, h))
  least Greater h = absurd (omega (arith, h))

  -- where the last row's key is lesser, the place is behind all rows
  pub last_less : (k : K) (rows : List R) (i : ℕ) → length rows ≡ suc i → HoldsAt (λ row. cmp (key row) k ≡ Less) rows i → IsBinarySearchResult (λ row. cmp (key row) k) rows (Err (length rows))
  last_less k rows i n at rising = (
    λ j d low high. least (cmp (key (get_or rows j d)) k) (subst (λ a. ordering_index (cmp (key (get_or rows j d)) k) ≤ ordering_index a) (at d) (rising j i d (omega (arith, n, high)) (omega (arith, n)))),
    λ j d low high. absurd (omega arith),
  )
