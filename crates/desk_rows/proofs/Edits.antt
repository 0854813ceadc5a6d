-- A row put in at its place and a row taken out of its place, as the definitions by key say.
use Rattle.std.proofs.Common.{◌≡◌, ℕ, suc, ◌+◌, ◌<◌, ◌≤◌, List, [], ◌∷◌, length, get_or, set, refl, sym, ap, ◌∙◌, subst, Ordering, Less, Equal, Greater, Result, Ok, Err, MatchResult, Some, None, insert, remove, arith}
use Rattle.std.specs.Cmp.{IsTotalOrder}
use Rattle.std.specs.List.Sorted.{IsBinarySearchResult, IsSearchInRange}
use Rattle.std.proofs.lemmas.Cmp.{tied_itself}
use Rattle.desk_rows.specs.Rows.{IsByKey, row_of, with_row, with_rows, without_row}
use Rattle.desk_rows.specs.Place.{StandsAt, StandsNowhere, Replaces, Enters}
use Rattle.desk_rows.proofs.Search.{place_of, one_further, place_from_search}
use Rattle.desk_rows.proofs.Order.{AllAbove, AllAbove-down, by_key, none_by_key, first_above, rest_by_key, less_back, row_of-above, without_row-above}

further : (p : Result ℕ ℕ) (P Q P' Q' : ℕ → Type 0) → ((i : ℕ) → P i → P' (suc i)) → ((i : ℕ) → Q i → Q' (suc i)) → MatchResult p P Q → MatchResult (one_further p) P' Q'
further (Ok i) P Q P' Q' f g h = f i h
further (Err i) P Q P' Q' f g h = g i h

module _ {R K : Type 0} (key : R → K) (cmp : K → K → Ordering) where
  -- a key at its place: what the search tells of it, without the order
  record Here (k : K) (rows : List R) (i : ℕ) : Type 0 where
    within : i < length rows
    found : (d : R) → row_of key cmp k rows ≡ Some (get_or rows i d)
    taken : without_row key cmp k rows ≡ remove rows i

  record Gone (k : K) (rows : List R) (i : ℕ) : Type 0 where
    within : i ≤ length rows
    absent : row_of key cmp k rows ≡ None
    same : without_row key cmp k rows ≡ rows

  record Set (new : R) (rows : List R) (i : ℕ) : Type 0 where
    put : with_row key cmp new rows ≡ set rows i new
    count : length (with_row key cmp new rows) ≡ length rows

  record Inserted (new : R) (rows : List R) (i : ℕ) : Type 0 where
    put : with_row key cmp new rows ≡ insert rows i new
    count : length (with_row key cmp new rows) ≡ length rows + 1

  module _ (o : IsTotalOrder cmp) where
    here_step : (k : K) (row : R) (rows : List R) (a : Ordering) → cmp (key row) k ≡ a → IsByKey key cmp (row ∷ rows) → MatchResult (place_of key cmp k rows) (Here k rows) (Gone k rows) → MatchResult (place_of key cmp k (row ∷ rows)) (Here k (row ∷ rows)) (Gone k (row ∷ rows))
    here_step k row rows Less e h ih =
        rw e
        (further (place_of key cmp k rows) (Here k rows) (Gone k rows) (Here k (row ∷ rows)) (Gone k (row ∷ rows))
        (λ i s. record { within = omega arith; found = λ d. rw e (s.found d); taken = rw e (ap (λ t. row ∷ t) s.taken) })
        (λ i s. record { within = omega arith; absent = rw e s.absent; same = rw e (ap (λ t. row ∷ t) s.same) }) ih)
    here_step k row rows Equal e h ih = rw e (record { within = omega arith; found = λ d. rw e refl; taken = rw e refl })
    here_step k row rows Greater e h ih =
        let above = AllAbove-down key cmp o k (key row) rows (less_back key cmp o (key row) k e) (first_above key cmp o row rows h) in
        rw e (record { within = omega arith; absent = rw e (row_of-above key cmp o k rows above); same = rw e (ap (λ t. row ∷ t) (without_row-above key cmp o k rows above)) })

    here_or_not : (k : K) (rows : List R) → IsByKey key cmp rows → MatchResult (place_of key cmp k rows) (Here k rows) (Gone k rows)
    here_or_not k [] h = record { within = omega arith; absent = refl; same = refl }
    here_or_not k (row ∷ rows) h = here_step k row rows (cmp (key row) k) refl h (here_or_not k rows (rest_by_key key cmp o row rows h))

    step_in : (new row : R) (rows : List R) (a : Ordering) → cmp (key row) (key new) ≡ a → MatchResult (place_of key cmp (key new) rows) (Set new rows) (Inserted new rows) → MatchResult (place_of key cmp (key new) (row ∷ rows)) (Set new (row ∷ rows)) (Inserted new (row ∷ rows))
    step_in new row rows Less e ih =
        rw e
        (further (place_of key cmp (key new) rows) (Set new rows) (Inserted new rows) (Set new (row ∷ rows)) (Inserted new (row ∷ rows))
        (λ i s. record { put = rw e (ap (λ t. row ∷ t) s.put); count = rw e (omega (arith, s.count)) })
        (λ i s. record { put = rw e (ap (λ t. row ∷ t) s.put); count = rw e (omega (arith, s.count)) }) ih)
    step_in new row rows Equal e ih = rw e (record { put = rw e refl; count = rw e refl })
    step_in new row rows Greater e ih = rw e (record { put = rw e refl; count = rw e (omega arith) })

    put_in : (new : R) (rows : List R) → MatchResult (place_of key cmp (key new) rows) (Set new rows) (Inserted new rows)
    put_in new [] = record { put = refl; count = refl }
    put_in new (row ∷ rows) = step_in new row rows (cmp (key row) (key new)) refl (put_in new rows)

    above-step : (k : K) (new row : R) (rows : List R) (a : Ordering) → cmp (key row) (key new) ≡ a → cmp k (key new) ≡ Less → AllAbove key cmp o k (row ∷ rows) → AllAbove key cmp o k (with_row key cmp new rows) → AllAbove key cmp o k (with_row key cmp new (row ∷ rows))
    above-step k new row rows Less e l a ih = rw e (a.0, ih)
    above-step k new row rows Equal e l a ih = rw e (l, a.1)
    above-step k new row rows Greater e l a ih = rw e (l, a)

    AllAbove-with_row : (k : K) (new : R) (rows : List R) → cmp k (key new) ≡ Less → AllAbove key cmp o k rows → AllAbove key cmp o k (with_row key cmp new rows)
    AllAbove-with_row k new [] l a = (l, tt)
    AllAbove-with_row k new (row ∷ rows) l a = above-step k new row rows (cmp (key row) (key new)) refl l a (AllAbove-with_row k new rows l a.1)

    above_same : (j k : K) (rows : List R) → cmp j k ≡ Equal → AllAbove key cmp o j rows → AllAbove key cmp o k rows
    above_same j k [] e a = tt
    above_same j k (row ∷ rows) e a = (sym (o.congr j k (key row) e) ∙ a.0, above_same j k rows e a.1)

    by_key-step : (new row : R) (rows : List R) (a : Ordering) → cmp (key row) (key new) ≡ a → IsByKey key cmp (row ∷ rows) → IsByKey key cmp (with_row key cmp new rows) → IsByKey key cmp (with_row key cmp new (row ∷ rows))
    by_key-step new row rows Less e h ih = rw e (by_key key cmp o row (with_row key cmp new rows) (AllAbove-with_row (key row) new rows e (first_above key cmp o row rows h)) ih)
    by_key-step new row rows Equal e h ih = rw e (by_key key cmp o new rows (above_same (key row) (key new) rows e (first_above key cmp o row rows h)) (rest_by_key key cmp o row rows h))
    by_key-step new row rows Greater e h ih =
        let less = less_back key cmp o (key row) (key new) e in
        rw e (by_key key cmp o new (row ∷ rows) (less, AllAbove-down key cmp o (key new) (key row) rows less (first_above key cmp o row rows h)) h)

    -- the keys still rise with the new row
    pub IsByKey-with_row : (new : R) (rows : List R) → IsByKey key cmp rows → IsByKey key cmp (with_row key cmp new rows)
    IsByKey-with_row new [] h = by_key key cmp o new [] tt (none_by_key key cmp o)
    IsByKey-with_row new (row ∷ rows) h = by_key-step new row rows (cmp (key row) (key new)) refl h (IsByKey-with_row new rows (rest_by_key key cmp o row rows h))

    pub IsByKey-with_rows : (more rows : List R) → IsByKey key cmp rows → IsByKey key cmp (with_rows key cmp more rows)
    IsByKey-with_rows [] rows h = h
    IsByKey-with_rows (new ∷ more) rows h = IsByKey-with_rows more (with_row key cmp new rows) (IsByKey-with_row new rows h)

    above-without : (j k : K) (row : R) (rows : List R) (a : Ordering) → cmp (key row) k ≡ a → AllAbove key cmp o j (row ∷ rows) → AllAbove key cmp o j (without_row key cmp k rows) → AllAbove key cmp o j (without_row key cmp k (row ∷ rows))
    above-without j k row rows Less e a ih = rw e (a.0, ih)
    above-without j k row rows Equal e a ih = rw e a.1
    above-without j k row rows Greater e a ih = rw e (a.0, ih)

    AllAbove-without_row : (j k : K) (rows : List R) → AllAbove key cmp o j rows → AllAbove key cmp o j (without_row key cmp k rows)
    AllAbove-without_row j k [] a = tt
    AllAbove-without_row j k (row ∷ rows) a = above-without j k row rows (cmp (key row) k) refl a (AllAbove-without_row j k rows a.1)

    by_key-without : (k : K) (row : R) (rows : List R) (a : Ordering) → cmp (key row) k ≡ a → IsByKey key cmp (row ∷ rows) → IsByKey key cmp (without_row key cmp k rows) → IsByKey key cmp (without_row key cmp k (row ∷ rows))
    by_key-without k row rows Less e h ih = rw e (by_key key cmp o row (without_row key cmp k rows) (AllAbove-without_row (key row) k rows (first_above key cmp o row rows h)) ih)
    by_key-without k row rows Equal e h ih = rw e (rest_by_key key cmp o row rows h)
    by_key-without k row rows Greater e h ih = rw e (by_key key cmp o row (without_row key cmp k rows) (AllAbove-without_row (key row) k rows (first_above key cmp o row rows h)) ih)

    -- and without a key's row
    pub IsByKey-without_row : (k : K) (rows : List R) → IsByKey key cmp rows → IsByKey key cmp (without_row key cmp k rows)
    IsByKey-without_row k [] h = h
    IsByKey-without_row k (row ∷ rows) h = by_key-without k row rows (cmp (key row) k) refl h (IsByKey-without_row k rows (rest_by_key key cmp o row rows h))

    none_not_some : (row : R) {P : Type 0} → Some row ≡ None → P
    none_not_some row e = cc

    undone-step : (new row : R) (rows : List R) (a : Ordering) → cmp (key row) (key new) ≡ a → row_of key cmp (key new) (row ∷ rows) ≡ None → (row_of key cmp (key new) rows ≡ None → without_row key cmp (key new) (with_row key cmp new rows) ≡ rows) → without_row key cmp (key new) (with_row key cmp new (row ∷ rows)) ≡ row ∷ rows
    undone-step new row rows Less e absent ih = rw (e, e) (ap (λ t. row ∷ t) (ih (rw e at absent)))
    undone-step new row rows Equal e absent ih = none_not_some row (rw e at absent)
    undone-step new row rows Greater e absent ih = rw (e, tied_itself o (key new)) refl

    -- a row whose key wasn't there, put in and taken out again
    pub without_row-with_row : (new : R) (rows : List R) → row_of key cmp (key new) rows ≡ None → without_row key cmp (key new) (with_row key cmp new rows) ≡ rows
    without_row-with_row new [] absent = rw (tied_itself o (key new)) refl
    without_row-with_row new (row ∷ rows) absent = undone-step new row rows (cmp (key row) (key new)) refl absent (without_row-with_row new rows)

    set_at : (new : R) (rows : List R) (k : K) (i : ℕ) → place_of key cmp k rows ≡ Ok i → key new ≡ k → with_row key cmp new rows ≡ set rows i new
    set_at new rows k i at e = (subst (λ p. MatchResult p (Set new rows) (Inserted new rows)) (ap (λ j. place_of key cmp j rows) e ∙ at) (put_in new rows)).put

    inserted_at : (new : R) (rows : List R) (k : K) (i : ℕ) → place_of key cmp k rows ≡ Err i → key new ≡ k → with_row key cmp new rows ≡ insert rows i new
    inserted_at new rows k i at e = (subst (λ p. MatchResult p (Set new rows) (Inserted new rows)) (ap (λ j. place_of key cmp j rows) e ∙ at) (put_in new rows)).put

    stands : (k : K) (rows : List R) (p : Result ℕ ℕ) → p ≡ place_of key cmp k rows → IsByKey key cmp rows → MatchResult p (Here k rows) (Gone k rows) → MatchResult p (StandsAt key cmp k rows) (StandsNowhere key cmp k rows)
    stands k rows (Ok i) at h m =
        record {
          within = m.within;
          found = m.found;
          taken = m.taken;
          by_key = subst (IsByKey key cmp) m.taken (IsByKey-without_row k rows h);
          put = λ new e. set_at new rows k i (sym at) e;
        }
    stands k rows (Err i) at h m = record { within = m.within; absent = m.absent; same = m.same; put = λ new e. inserted_at new rows k i (sym at) e }

    -- what a search by a key tells
    pub place_of_key : (k : K) (rows : List R) (r : Result ℕ ℕ) → IsByKey key cmp rows → IsSearchInRange r (length rows) → IsBinarySearchResult (λ row. cmp (key row) k) rows r → MatchResult r (StandsAt key cmp k rows) (StandsNowhere key cmp k rows)
    place_of_key k rows r h b s =
        let at = place_from_search key cmp o k rows r h b s in
        stands k rows r at h (subst (λ p. MatchResult p (Here k rows) (Gone k rows)) (sym at) (here_or_not k rows h))

    goes : (new : R) (rows : List R) (p : Result ℕ ℕ) → IsByKey key cmp rows → MatchResult p (Here (key new) rows) (Gone (key new) rows) → MatchResult p (Set new rows) (Inserted new rows) → MatchResult p (Replaces key cmp new rows) (Enters key cmp new rows)
    goes new rows (Ok i) h m n =
        record { within = m.within; found = m.found; put = n.put; count = n.count; by_key = subst (IsByKey key cmp) n.put (IsByKey-with_row new rows h) }
    goes new rows (Err i) h m n =
        record {
          within = m.within;
          absent = m.absent;
          put = n.put;
          count = n.count;
          by_key = subst (IsByKey key cmp) n.put (IsByKey-with_row new rows h);
          undone = subst (λ t. without_row key cmp (key new) t ≡ rows) n.put (without_row-with_row new rows m.absent);
        }

    -- what a search by a row tells
    pub place_of_row : (new : R) (rows : List R) (r : Result ℕ ℕ) → IsByKey key cmp rows → IsSearchInRange r (length rows) → IsBinarySearchResult (λ row. cmp (key row) (key new)) rows r → MatchResult r (Replaces key cmp new rows) (Enters key cmp new rows)
    place_of_row new rows r h b s =
        let at = place_from_search key cmp o (key new) rows r h b s in
        let here = subst (λ p. MatchResult p (Here (key new) rows) (Gone (key new) rows)) (sym at) (here_or_not (key new) rows h) in
        let in_place = subst (λ p. MatchResult p (Set new rows) (Inserted new rows)) (sym at) (put_in new rows) in
        goes new rows r h here in_place
