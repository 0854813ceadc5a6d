-- What is found after a row is put in or a key's row is taken out, and what holds of each row then.
use Rattle.std.proofs.Common.{◌≡◌, ℕ, suc, ◌+◌, ◌≤◌, Bool, true, false, cond, List, [], ◌∷◌, filter, map, length, sum_by, refl, sym, ap, ◌∙◌, Ordering, Less, Equal, Greater, is_eq, Some, None, is_some, arith}
use Rattle.std.specs.Ordering.{match_ordering}
use Rattle.std.specs.Cmp.{IsTotalOrder}
use Rattle.std.specs.List.{AllByRecursion}
use Rattle.std.proofs.lemmas.Bool.{false≢true}
use Rattle.std.proofs.lemmas.Cmp.{tied_itself}
use Rattle.std.proofs.lemmas.List.Sums.{sum_by-cons}
use Rattle.desk_rows.specs.Rows.{IsByKey, row_of, with_row, with_rows, without_row}
use Rattle.desk_rows.proofs.Order.{AllAbove-down, first_above, less_back, rest_by_key, row_of-above}

none_some : {R : Type 0} (row : R) {G : Type 0} → None ≡ Some row → G
none_some row e = cc

is_eq-false : (a : Ordering) → (a ≡ Equal → ⊥) → is_eq a ≡ false
is_eq-false Less h = refl
is_eq-false Equal h = absurd (h refl)
is_eq-false Greater h = refl

module _ {R K : Type 0} (key : R → K) (cmp : K → K → Ordering) where
  -- what holds of each row and of the new row holds of each row with the new one
  pub each_with_row : (P : R → Type 0) (new : R) (rows : List R) → P new → AllByRecursion P rows → AllByRecursion P (with_row key cmp new rows)
  each_with_row P new [] p a = (p, tt)
  each_with_row P new (row ∷ rows) p a =
      elim (cmp (key row) (key new)) as (λ o. AllByRecursion P (match_ordering o (row ∷ with_row key cmp new rows) (new ∷ rows) (new ∷ row ∷ rows))) [
        | Less ↦ (a.0, each_with_row P new rows p a.1)
        | Equal ↦ (p, a.1)
        | Greater ↦ (p, a)
      ]

  pub each_with_rows : (P : R → Type 0) (more rows : List R) → AllByRecursion P more → AllByRecursion P rows → AllByRecursion P (with_rows key cmp more rows)
  each_with_rows P [] rows m a = a
  each_with_rows P (new ∷ more) rows m a = each_with_rows P more (with_row key cmp new rows) m.1 (each_with_row P new rows m.0 a)

  pub each_without_row : (P : R → Type 0) (k : K) (rows : List R) → AllByRecursion P rows → AllByRecursion P (without_row key cmp k rows)
  each_without_row P k [] a = tt
  each_without_row P k (row ∷ rows) a =
      elim (is_eq (cmp (key row) k)) as (λ b. AllByRecursion P (cond b rows (row ∷ without_row key cmp k rows))) [ true ↦ a.1 | false ↦ (a.0, each_without_row P k rows a.1) ]

  -- a sum with a row whose key wasn't there
  pub sum_by-with_row : (f : R → ℕ) (new : R) (rows : List R) → row_of key cmp (key new) rows ≡ None → sum_by f (with_row key cmp new rows) ≡ f new + sum_by f rows
  sum_by-with_row f new [] absent = sum_by-cons f new []
  sum_by-with_row f new (row ∷ rows) absent =
      elim (cmp (key row) (key new)) as (λ o. cond (is_eq o) (Some row) (row_of key cmp (key new) rows) ≡ None → sum_by f (match_ordering o (row ∷ with_row key cmp new rows) (new ∷ rows) (new ∷ row ∷ rows)) ≡ f new + sum_by f (row ∷ rows)) [
        | Less ↦ λ later. omega (arith, sum_by-cons f row (with_row key cmp new rows), sum_by-cons f row rows, sum_by-with_row f new rows later)
        | Equal ↦ λ here. none_some row (sym here)
        | Greater ↦ λ later. sum_by-cons f new (row ∷ rows)
      ] absent

  module _ (o : IsTotalOrder cmp) where
    found_step : (new row : R) (rows : List R) (a : Ordering) → cmp (key row) (key new) ≡ a → row_of key cmp (key new) (with_row key cmp new rows) ≡ Some new → row_of key cmp (key new) (with_row key cmp new (row ∷ rows)) ≡ Some new
    found_step new row rows Less e ih = rw (e, e) ih
    found_step new row rows Equal e ih = rw (e, tied_itself o (key new)) refl
    found_step new row rows Greater e ih = rw (e, tied_itself o (key new)) refl

    -- the row that was put in is found
    pub row_of-with_row : (new : R) (rows : List R) → row_of key cmp (key new) (with_row key cmp new rows) ≡ Some new
    row_of-with_row new [] = rw (tied_itself o (key new)) refl
    row_of-with_row new (row ∷ rows) = found_step new row rows (cmp (key row) (key new)) refl (row_of-with_row new rows)

    other_step : (new row : R) (k : K) (rows : List R) (a : Ordering) → cmp (key row) (key new) ≡ a → is_eq (cmp (key new) k) ≡ false → row_of key cmp k (with_row key cmp new rows) ≡ row_of key cmp k rows → row_of key cmp k (with_row key cmp new (row ∷ rows)) ≡ row_of key cmp k (row ∷ rows)
    other_step new row k rows Less e other ih = rw e (ap (λ found. cond (is_eq (cmp (key row) k)) (Some row) found) ih)
    other_step new row k rows Equal e other ih =
        let same : cmp (key row) k ≡ cmp (key new) k = o.congr (key row) (key new) k e in
        rw (e, other, same, other) refl
    other_step new row k rows Greater e other ih = rw (e, other) refl

    -- another key finds what it found before
    pub row_of-with_row_other : (new : R) (k : K) (rows : List R) → is_eq (cmp (key new) k) ≡ false → row_of key cmp k (with_row key cmp new rows) ≡ row_of key cmp k rows
    row_of-with_row_other new k [] other = rw other refl
    row_of-with_row_other new k (row ∷ rows) other = other_step new row k rows (cmp (key row) (key new)) refl other (row_of-with_row_other new k rows other)

    without_step : (j k : K) (row : R) (rows : List R) (b : Bool) → is_eq (cmp (key row) j) ≡ b → is_eq (cmp j k) ≡ false → row_of key cmp k (without_row key cmp j rows) ≡ row_of key cmp k rows → row_of key cmp k (without_row key cmp j (row ∷ rows)) ≡ row_of key cmp k (row ∷ rows)
    without_step j k row rows true e other ih =
        let same : is_eq (cmp (key row) k) ≡ false = ap is_eq (o.congr (key row) j k (is_equal (cmp (key row) j) e)) ∙ other in
        rw (e, same) refl
      where
        is_equal : (a : Ordering) → is_eq a ≡ true → a ≡ Equal
        is_equal Less h = absurd (false≢true h)
        is_equal Equal h = refl
        is_equal Greater h = absurd (false≢true h)
    without_step j k row rows false e other ih = rw e (ap (λ found. cond (is_eq (cmp (key row) k)) (Some row) found) ih)

    pub row_of-without_row_other : (j k : K) (rows : List R) → is_eq (cmp j k) ≡ false → row_of key cmp k (without_row key cmp j rows) ≡ row_of key cmp k rows
    row_of-without_row_other j k [] other = refl
    row_of-without_row_other j k (row ∷ rows) other = without_step j k row rows (is_eq (cmp (key row) j)) refl other (row_of-without_row_other j k rows other)

module _ {R K : Type 0} (key : R → K) (cmp : K → K → Ordering) where
  kept_step : (k : K) (new row : R) (rows : List R) (a : Ordering) (o : IsTotalOrder cmp) → cmp (key row) (key new) ≡ a → is_some (row_of key cmp k (row ∷ rows)) ≡ true → (is_some (row_of key cmp k rows) ≡ true → is_some (row_of key cmp k (with_row key cmp new rows)) ≡ true) → is_some (row_of key cmp k (with_row key cmp new (row ∷ rows))) ≡ true
  kept_step k new row rows Less o e kept ih =
      rw e
      (elim (is_eq (cmp (key row) k)) as (λ b. is_some (cond b (Some row) (row_of key cmp k rows)) ≡ true → is_some (cond b (Some row) (row_of key cmp k (with_row key cmp new rows))) ≡ true) [ true ↦ λ h. refl | false ↦ ih ] kept)
  kept_step k new row rows Equal o e kept ih =
      rw (e, sym (o.congr (key row) (key new) k e))
      (elim (is_eq (cmp (key row) k)) as (λ b. is_some (cond b (Some row) (row_of key cmp k rows)) ≡ true → is_some (cond b (Some new) (row_of key cmp k rows)) ≡ true) [ true ↦ λ h. refl | false ↦ λ h. h ] kept)
  kept_step k new row rows Greater o e kept ih =
      rw e (elim (is_eq (cmp (key new) k)) as (λ b. is_some (cond b (Some new) (row_of key cmp k (row ∷ rows))) ≡ true) [ true ↦ refl | false ↦ kept ])

  -- a kept key stays kept when a row is put in
  pub kept-with_row : IsTotalOrder cmp → (k : K) (new : R) (rows : List R) → is_some (row_of key cmp k rows) ≡ true → is_some (row_of key cmp k (with_row key cmp new rows)) ≡ true
  kept-with_row o k new [] kept = absurd (false≢true kept)
  kept-with_row o k new (row ∷ rows) kept = kept_step k new row rows (cmp (key row) (key new)) o refl kept (kept-with_row o k new rows)

  pub kept-with_rows : IsTotalOrder cmp → (k : K) (more rows : List R) → is_some (row_of key cmp k rows) ≡ true → is_some (row_of key cmp k (with_rows key cmp more rows)) ≡ true
  kept-with_rows o k [] rows kept = kept
  kept-with_rows o k (new ∷ more) rows kept = kept-with_rows o k more (with_row key cmp new rows) (kept-with_row o k new rows kept)

-- no row is lost when one is put in
pub length-with_row-ge : {R K : Type 0} (key : R → K) (cmp : K → K → Ordering) (new : R) (rows : List R) → length rows ≤ length (with_row key cmp new rows)
length-with_row-ge key cmp new [] = omega arith
length-with_row-ge key cmp new (row ∷ rows) =
    elim (cmp (key row) (key new)) as (λ o. suc (length rows) ≤ length (match_ordering o (row ∷ with_row key cmp new rows) (new ∷ rows) (new ∷ row ∷ rows))) [
      | Less ↦ omega (arith, length-with_row-ge key cmp new rows)
      | Equal ↦ omega arith
      | Greater ↦ omega arith
    ]

-- a key that none of the new rows has finds what it found before
pub row_of-with_rows_other : {R K : Type 0} (key : R → K) (cmp : K → K → Ordering) → IsTotalOrder cmp → (k : K) (more rows : List R) → AllByRecursion (λ row. is_eq (cmp (key row) k) ≡ false) more → row_of key cmp k (with_rows key cmp more rows) ≡ row_of key cmp k rows
row_of-with_rows_other key cmp o k [] rows other = refl
row_of-with_rows_other key cmp o k (new ∷ more) rows other =
    row_of-with_rows_other key cmp o k more (with_row key cmp new rows) other.1 ∙ row_of-with_row_other key cmp o new k rows other.0

module _ {R K : Type 0} (key : R → K) (cmp : K → K → Ordering) (test : R → Bool) where
  -- a filter that keeps neither the new row nor the row in whose place it comes
  pub filter-with_row : (new : R) (rows : List R) → test new ≡ false → AllByRecursion (λ row. cmp (key row) (key new) ≡ Equal → test row ≡ false) rows → filter test (with_row key cmp new rows) ≡ filter test rows
  filter-with_row new [] none old = rw none refl
  filter-with_row new (row ∷ rows) none old =
      elim (cmp (key row) (key new)) as (λ o. (o ≡ Equal → test row ≡ false) → filter test (match_ordering o (row ∷ with_row key cmp new rows) (new ∷ rows) (new ∷ row ∷ rows)) ≡ filter test (row ∷ rows)) [
        | Less ↦ λ here. ap (λ rest. cond (test row) (row ∷ rest) rest) (filter-with_row new rows none old.1)
        | Equal ↦ λ here. rw (none, here refl) refl
        | Greater ↦ λ here. rw none refl
      ] old.0

  pub filter-with_rows : (more rows : List R) → AllByRecursion (λ new. (test new ≡ false) × ((row : R) → cmp (key row) (key new) ≡ Equal → test row ≡ false)) more → filter test (with_rows key cmp more rows) ≡ filter test rows
  filter-with_rows [] rows a = refl
  filter-with_rows (new ∷ more) rows a =
      filter-with_rows more (with_row key cmp new rows) a.1 ∙ filter-with_row new rows a.0.0 (every (λ row. cmp (key row) (key new) ≡ Equal → test row ≡ false) a.0.1 rows)
    where
      every : (P : R → Type 0) → ((row : R) → P row) → (xs : List R) → AllByRecursion P xs
      every P f [] = tt
      every P f (x ∷ xs) = (f x, every P f xs)

  -- a filter that doesn't keep the row that is taken out
  pub filter-without_row : (k : K) (rows : List R) → AllByRecursion (λ row. is_eq (cmp (key row) k) ≡ true → test row ≡ false) rows → filter test (without_row key cmp k rows) ≡ filter test rows
  filter-without_row k [] old = refl
  filter-without_row k (row ∷ rows) old =
      elim (is_eq (cmp (key row) k)) as (λ b. (b ≡ true → test row ≡ false) → filter test (cond b rows (row ∷ without_row key cmp k rows)) ≡ filter test (row ∷ rows)) [
        | true ↦ λ here. rw (here refl) refl
        | false ↦ λ here. ap (λ rest. cond (test row) (row ∷ rest) rest) (filter-without_row k rows old.1)
      ] old.0

  -- a row that comes in the place of one that the test and the name don't tell from it
  pub replaced : {Y : Type 0} (name : R → Y) (o : IsTotalOrder cmp) (new : R) (rows : List R) → IsByKey key cmp rows → is_some (row_of key cmp (key new) rows) ≡ true → ((row : R) → row_of key cmp (key new) rows ≡ Some row → (test row ≡ test new) × (name row ≡ name new)) → map name (filter test (with_row key cmp new rows)) ≡ map name (filter test rows)
  replaced name o new [] h kept same = absurd (false≢true kept)
  replaced name o new (row ∷ rows) h kept same =
      elim (cmp (key row) (key new)) as (λ a. cmp (key row) (key new) ≡ a → map name (filter test (match_ordering a (row ∷ with_row key cmp new rows) (new ∷ rows) (new ∷ row ∷ rows))) ≡ map name (filter test (row ∷ rows))) [
        | Less ↦ λ e.
            let later : is_some (row_of key cmp (key new) rows) ≡ true = rw e at kept in
            in_front (with_row key cmp new rows) (replaced name o new rows (rest_by_key key cmp o row rows h) later (λ found f. same found (rw e f)))
        | Equal ↦ λ e. let here = same row (rw e refl) in in_place here.0 here.1
        | Greater ↦ λ e.
            let above = AllAbove-down key cmp o (key new) (key row) rows (less_back key cmp o (key row) (key new) e) (first_above key cmp o row rows h) in
            let none : row_of key cmp (key new) rows ≡ None = row_of-above key cmp o (key new) rows above in
            let gone : is_some (row_of key cmp (key new) rows) ≡ true = rw e at kept in
            absurd (false≢true (sym (ap is_some none) ∙ gone))
      ] refl
    where
      in_front : (more : List R) → map name (filter test more) ≡ map name (filter test rows) → map name (filter test (row ∷ more)) ≡ map name (filter test (row ∷ rows))
      in_front more e = elim (test row) as (λ b. map name (cond b (row ∷ filter test more) (filter test more)) ≡ map name (cond b (row ∷ filter test rows) (filter test rows))) [ true ↦ ap (λ rest. name row ∷ rest) e | false ↦ e ]

      in_place : test row ≡ test new → name row ≡ name new → map name (filter test (new ∷ rows)) ≡ map name (filter test (row ∷ rows))
      in_place e f = rw e (elim (test new) as (λ b. map name (cond b (new ∷ filter test rows) (filter test rows)) ≡ map name (cond b (row ∷ filter test rows) (filter test rows))) [ true ↦ ap (λ n. n ∷ map name (filter test rows)) (sym f) | false ↦ refl ])
