-- Rows in the order of their keys: what stands before and behind a key.
use Rattle.std.proofs.Common.{◌≡◌, List, [], ◌∷◌, map, refl, sym, ap, ◌∙◌, Ordering, Less, Equal, Greater, None}
use Rattle.std.specs.Ordering.{ordering_reverse}
use Rattle.std.specs.Cmp.{IsTotalOrder}
use Rattle.std.specs.List.{AllByRecursion}
use Rattle.std.specs.List.Sorted.{IsStrictlySortedBy}
use Rattle.desk_rows.specs.Rows.{IsByKey, row_of, without_row}

-- an answer and its reverse
pub reversed : (a b : Ordering) → a ≡ ordering_reverse b → b ≡ ordering_reverse a
reversed a Less e = sym (ap ordering_reverse e)
reversed a Equal e = sym (ap ordering_reverse e)
reversed a Greater e = sym (ap ordering_reverse e)

module _ {R K : Type 0} (key : R → K) (cmp : K → K → Ordering) (o : IsTotalOrder cmp) where
  -- every key of the rows is greater than k
  abbrev pub AllAbove : K → List R → Type 0
  AllAbove k rows = AllByRecursion (λ j. cmp k j ≡ Less) (map key rows)

  pub by_key : (row : R) (rows : List R) → AllAbove (key row) rows → IsByKey key cmp rows → IsByKey key cmp (row ∷ rows)
  unfolding IsStrictlySortedBy
  by_key row rows above rest = (above, rest)

  pub first_above : (row : R) (rows : List R) → IsByKey key cmp (row ∷ rows) → AllAbove (key row) rows
  unfolding IsStrictlySortedBy
  first_above row rows h = h.0

  pub rest_by_key : (row : R) (rows : List R) → IsByKey key cmp (row ∷ rows) → IsByKey key cmp rows
  unfolding IsStrictlySortedBy
  rest_by_key row rows h = h.1

  pub none_by_key : IsByKey key cmp []
  unfolding IsStrictlySortedBy
  none_by_key = tt

  pub greater_back : (j k : K) → cmp j k ≡ Less → cmp k j ≡ Greater
  greater_back j k e = o.antisymm k j ∙ ap ordering_reverse e

  pub less_back : (j k : K) → cmp j k ≡ Greater → cmp k j ≡ Less
  less_back j k e = o.antisymm k j ∙ ap ordering_reverse e

  pub AllAbove-down : (j k : K) (rows : List R) → cmp j k ≡ Less → AllAbove k rows → AllAbove j rows
  AllAbove-down j k [] e a = tt
  AllAbove-down j k (row ∷ rows) e a = (o.trans j k (key row) e a.0, AllAbove-down j k rows e a.1)

  -- no row of the list has a key that all its keys are above
  pub row_of-above : (k : K) (rows : List R) → AllAbove k rows → row_of key cmp k rows ≡ None
  row_of-above k [] a = refl
  row_of-above k (row ∷ rows) a = rw (greater_back k (key row) a.0) (row_of-above k rows a.1)

  pub without_row-above : (k : K) (rows : List R) → AllAbove k rows → without_row key cmp k rows ≡ rows
  without_row-above k [] a = refl
  without_row-above k (row ∷ rows) a = rw (greater_back k (key row) a.0) (ap (λ t. row ∷ t) (without_row-above k rows a.1))
