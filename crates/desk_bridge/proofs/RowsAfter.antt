-- What is found in rows after others are put in or one is taken out. For desk_rows.
use Rattle.std.proofs.Common.{◌≡◌, ℕ, ◌+◌, ◌<◌, Bool, true, false, cond, List, [], ◌∷◌, ◌++◌, filter, get_or, length, map, take, Option, Some, None, is_eq, refl, sym, ap, ◌∙◌, Ordering, Less, Equal, Greater}
use Rattle.std.specs.Ordering.{on, ordering_reverse}
use Rattle.std.specs.Cmp.{IsTotalOrder}
use Rattle.std.specs.Option.{option_or}
use Rattle.std.proofs.lemmas.Bool.{false≢true}
use Rattle.std.proofs.lemmas.Cmp.{on_total}
use Rattle.std.proofs.lemmas.List.{take_more}
use Rattle.desk_rows.specs.Rows.{IsByKey, row_of, with_row, with_rows, without_row}
use Rattle.desk_rows.proofs.Lookups.{row_of-with_row, row_of-with_row_other}
use Rattle.desk_rows.proofs.Order.{AllAbove, by_key, first_above, rest_by_key, row_of-above}
use Rattle.desk_model.proofs.Order.{sorted_from_rises}
use Rattle.desk_fields.specs.Reading.{in_turn}
use Rattle.desk_fields.proofs.Rising.{rises_from_turn, rises_on}
use Rattle.desk_bridge.specs.RowsAfter.{last_of, row_if}

is_equal : (a : Ordering) → is_eq a ≡ true → a ≡ Equal
is_equal Less e = absurd (false≢true e)
is_equal Equal e = refl
is_equal Greater e = absurd (false≢true e)

or_assoc : {X : Type 0} (a b c : Option X) → option_or a (option_or b c) ≡ option_or (option_or a b) c
or_assoc None b c = refl
or_assoc (Some x) b c = refl

or_none : {X : Type 0} (a : Option X) → option_or a None ≡ a
or_none None = refl
or_none (Some x) = refl

module _ {R K : Type 0} (key : R → K) (cmp : K → K → Ordering) (o : IsTotalOrder cmp) where
  -- keys that are tied stand alike to any other
  tied_right : (a j k : K) → cmp j k ≡ Equal → cmp a j ≡ cmp a k
  tied_right a j k e = o.antisymm a j ∙ ap ordering_reverse (o.congr j k a e) ∙ sym (o.antisymm a k)

  tied_back : (j k : K) → cmp j k ≡ Equal → cmp k j ≡ Equal
  tied_back j k e = o.antisymm k j ∙ ap ordering_reverse e

  row_of-tied : (j k : K) (rows : List R) → cmp j k ≡ Equal → row_of key cmp j rows ≡ row_of key cmp k rows
  row_of-tied j k [] e = refl
  row_of-tied j k (row ∷ rows) e = rw (tied_right (key row) j k e, row_of-tied j k rows e) refl

  above-tied : (j k : K) (rows : List R) → cmp j k ≡ Equal → AllAbove key cmp o j rows → AllAbove key cmp o k rows
  above-tied j k [] e a = tt
  above-tied j k (row ∷ rows) e a = (sym (o.congr j k (key row) e) ∙ a.0, above-tied j k rows e a.1)

  -- the row that was put in is found by its key
  pub found_new : (new : R) (k : K) (rows : List R) → is_eq (cmp (key new) k) ≡ true → row_of key cmp k (with_row key cmp new rows) ≡ Some new
  found_new new k rows e =
      row_of-tied k (key new) (with_row key cmp new rows) (tied_back (key new) k (is_equal (cmp (key new) k) e)) ∙ row_of-with_row key cmp o new rows

  found_with : (new : R) (k : K) (rows : List R) → row_of key cmp k (with_row key cmp new rows) ≡ option_or (row_if key cmp k new) (row_of key cmp k rows)
  found_with new k rows = by (is_eq (cmp (key new) k)) refl
    where
      by : (b : Bool) → is_eq (cmp (key new) k) ≡ b → row_of key cmp k (with_row key cmp new rows) ≡ option_or (cond b (Some new) None) (row_of key cmp k rows)
      by true e = found_new new k rows e
      by false e = row_of-with_row_other key cmp o new k rows e

  -- after several the last of them that has the key is found
  pub row_of-with_rows : (k : K) (more rows : List R) → row_of key cmp k (with_rows key cmp more rows) ≡ option_or (last_of key cmp k more) (row_of key cmp k rows)
  row_of-with_rows k [] rows = refl
  row_of-with_rows k (new ∷ more) rows =
      row_of-with_rows k more (with_row key cmp new rows)
      ∙ ap (option_or (last_of key cmp k more)) (found_with new k rows)
      ∙ or_assoc (last_of key cmp k more) (row_if key cmp k new) (row_of key cmp k rows)

  -- which is the only one where the keys rise
  pub last_is_first : (k : K) (rows : List R) → IsByKey key cmp rows → last_of key cmp k rows ≡ row_of key cmp k rows
  last_is_first k [] h = refl
  last_is_first k (row ∷ rows) h = by (is_eq (cmp (key row) k)) refl (last_is_first k rows (rest_by_key key cmp o row rows h))
    where
      by : (b : Bool) → is_eq (cmp (key row) k) ≡ b → last_of key cmp k rows ≡ row_of key cmp k rows →
          option_or (last_of key cmp k rows) (cond b (Some row) None) ≡ cond b (Some row) (row_of key cmp k rows)
      by true e ih =
          let above = above-tied (key row) k rows (is_equal (cmp (key row) k) e) (first_above key cmp o row rows h) in
          ap (λ found. option_or found (Some row)) (ih ∙ row_of-above key cmp o k rows above)
      by false e ih = or_none (last_of key cmp k rows) ∙ ih

  -- a key whose row is taken out finds nothing
  pub found_without : (j k : K) (rows : List R) → IsByKey key cmp rows → is_eq (cmp j k) ≡ true → row_of key cmp k (without_row key cmp j rows) ≡ None
  found_without j k [] h e = refl
  found_without j k (row ∷ rows) h e = by (is_eq (cmp (key row) j)) refl (found_without j k rows (rest_by_key key cmp o row rows h) e)
    where
      same : cmp j k ≡ Equal
      same = is_equal (cmp j k) e

      by : (b : Bool) → is_eq (cmp (key row) j) ≡ b → row_of key cmp k (without_row key cmp j rows) ≡ None → row_of key cmp k (cond b rows (row ∷ without_row key cmp j rows)) ≡ None
      by true f ih =
          let at_row : cmp (key row) k ≡ Equal = sym (tied_right (key row) j k same) ∙ is_equal (cmp (key row) j) f in
          row_of-above key cmp o k rows (above-tied (key row) k rows at_row (first_above key cmp o row rows h))
      by false f ih = rw (ap is_eq (sym (tied_right (key row) j k same)) ∙ f) ih

  above-filter : (test : R → Bool) (k : K) (rows : List R) → AllAbove key cmp o k rows → AllAbove key cmp o k (filter test rows)
  above-filter test k [] a = tt
  above-filter test k (row ∷ rows) a =
      elim (test row) as (λ b. AllAbove key cmp o k (cond b (row ∷ filter test rows) (filter test rows))) [ true ↦ (a.0, above-filter test k rows a.1) | false ↦ above-filter test k rows a.1 ]

  -- some of the rows stand in order, where all do
  pub by_key-filter : (test : R → Bool) (rows : List R) → IsByKey key cmp rows → IsByKey key cmp (filter test rows)
  by_key-filter test [] h = h
  by_key-filter test (row ∷ rows) h =
      elim (test row) as (λ b. IsByKey key cmp (cond b (row ∷ filter test rows) (filter test rows))) [
        | true ↦ by_key key cmp o row (filter test rows) (above-filter test (key row) rows (first_above key cmp o row rows h)) (by_key-filter test rows (rest_by_key key cmp o row rows h))
        | false ↦ by_key-filter test rows (rest_by_key key cmp o row rows h)
      ]

  -- rows whose keys rise one after the other
  pub by_key_in_turn : (rows : List R) → in_turn (on key cmp) rows ≡ true → IsByKey key cmp rows
  by_key_in_turn rows e = sorted_from_rises cmp (map key rows) (rises_on key cmp rows ∙ rises_from_turn (on key cmp) (on_total key o) rows e)

module _ {R K : Type 0} (key : R → K) (cmp : K → K → Ordering) (k : K) where
  last_of-behind : (rows : List R) (row : R) → last_of key cmp k (rows ++ row ∷ []) ≡ option_or (row_if key cmp k row) (last_of key cmp k rows)
  last_of-behind [] row = sym (or_none (row_if key cmp k row))
  last_of-behind (first ∷ rows) row =
      ap (λ found. option_or found (row_if key cmp k first)) (last_of-behind rows row)
      ∙ sym (or_assoc (row_if key cmp k row) (last_of key cmp k rows) (row_if key cmp k first))

  if_or : (b : Bool) (row : R) (found : Option R) → option_or (cond b (Some row) None) found ≡ cond b (Some row) found
  if_or true row found = refl
  if_or false row found = refl

  -- of one row more
  pub last_of-more : (rows : List R) (i : ℕ) (row : R) → i < length rows → row ≡ get_or rows i row → (found new : Option R) → found ≡ last_of key cmp k (take i rows) →
      new ≡ cond (is_eq (cmp (key row) k)) (Some row) found → new ≡ last_of key cmp k (take (i + 1) rows)
  last_of-more rows i row low at found new was is =
      is
      ∙ ap (λ other. cond (is_eq (cmp (key row) k)) (Some row) other) was
      ∙ sym (if_or (is_eq (cmp (key row) k)) row (last_of key cmp k (take i rows)))
      ∙ sym (last_of-behind (take i rows) row)
      ∙ sym (ap (last_of key cmp k) (take_more rows i row low ∙ ap (λ last. take i rows ++ last ∷ []) (sym at)))
