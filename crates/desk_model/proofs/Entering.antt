-- What a row with_new into a list by key makes of the list.
use Rattle.std.proofs.Common.{◌≡◌, ℕ, ◌+◌, ◌<◌, ◌≤◌, Bool, true, false, List, [], ◌∷◌, length, is_some, Result, Ok, Err, refl, sym, subst, Ordering, Less, Equal, Greater, arith}
use Rattle.std.specs.Prelude.{if◌then◌else◌, nat_lt}
use Rattle.std.specs.Cmp.{IsTotalOrder}
use Rattle.std.specs.List.{list_all}
use Rattle.std.proofs.lemmas.Bool.{and_from, and_parts, ltb-true}
use Rattle.desk_rows.specs.Place.{Replaces}
use Rattle.desk_rows.specs.Rows.{IsByKey, row_of, with_row}
use Rattle.desk_rows.proofs.Edits.{IsByKey-with_row}
use Rattle.desk_model.specs.declared.decl_error.DeclError.{DeclError}
use Rattle.desk_model.specs.declared.decl_error.DeclError.TheVariants.{Repeated, TooMany}
use Rattle.desk_model.specs.Declaring.{with_new}

-- two answers are one
abbrev Same : {X : Type 0} → Result X DeclError → Result X DeclError → Type 0
Same a b = a ≡ b

ok_inside : {X : Type 0} (x y : X) → Same (Ok x) (Ok y) → x ≡ y
ok_inside x y e = cc

err_not_ok : {X : Type 0} (fault : DeclError) (x : X) {G : Type 0} → Same (Err fault) (Ok x) → G
err_not_ok fault x e = cc

-- the answer is Ok in one of its cases only
entered_so : {X : Type 0} (there room : Bool) (x y : X) → Same (if there then Err Repeated else (if room then Ok x else Err TooMany)) (Ok y) → (x ≡ y) × (room ≡ true)
entered_so true room x y e = err_not_ok Repeated y e
entered_so false true x y e = (ok_inside x y e, refl)
entered_so false false x y e = err_not_ok TooMany y e

module _ {R K : Type 0} (key : R → K) (cmp : K → K → Ordering) where
  length_step : (new row : R) (rows : List R) (a : Ordering) → cmp (key row) (key new) ≡ a → length (with_row key cmp new rows) ≤ length rows + 1 → length (with_row key cmp new (row ∷ rows)) ≤ length (row ∷ rows) + 1
  length_step new row rows Less e ih = rw e (omega (arith, ih))
  length_step new row rows Equal e ih = rw e (omega arith)
  length_step new row rows Greater e ih = rw e (omega arith)

  length-with_row : (new : R) (rows : List R) → length (with_row key cmp new rows) ≤ length rows + 1
  length-with_row new [] = omega arith
  length-with_row new (row ∷ rows) = length_step new row rows (cmp (key row) (key new)) refl (length-with_row new rows)

  all_step : (p : R → Bool) (new row : R) (rows : List R) (a : Ordering) → cmp (key row) (key new) ≡ a → p new ≡ true → list_all p (row ∷ rows) ≡ true → list_all p (with_row key cmp new rows) ≡ true → list_all p (with_row key cmp new (row ∷ rows)) ≡ true
  all_step p new row rows Less e n h ih = rw e (and_from (p row) (list_all p (with_row key cmp new rows)) (and_parts (p row) (list_all p rows) h).0 ih)
  all_step p new row rows Equal e n h ih = rw e (and_from (p new) (list_all p rows) n (and_parts (p row) (list_all p rows) h).1)
  all_step p new row rows Greater e n h ih = rw e (and_from (p new) (list_all p (row ∷ rows)) n h)

  -- a test that the rows and the new row pass
  pub list_all-with_row : (p : R → Bool) (new : R) (rows : List R) → p new ≡ true → list_all p rows ≡ true → list_all p (with_row key cmp new rows) ≡ true
  list_all-with_row p new [] n h = and_from (p new) true n refl
  list_all-with_row p new (row ∷ rows) n h =
      all_step p new row rows (cmp (key row) (key new)) refl n h (list_all-with_row p new rows n (and_parts (p row) (list_all p rows) h).1)

  -- the list with a row with_new
  pub record Keeps (limit : ℕ) (new : R) (rows all : List R) : Type 0 where
    pub put : all ≡ with_row key cmp new rows
    pub fits : length all ≤ limit
    pub by_key : IsByKey key cmp all

  pub entered_keeps : IsTotalOrder cmp → (limit : ℕ) (new : R) (rows all : List R) → with_new key cmp limit new rows ≡ Ok all → IsByKey key cmp rows → Keeps limit new rows all
  entered_keeps o limit new rows all e h =
      let so = entered_so (is_some (row_of key cmp (key new) rows)) (nat_lt (length rows) limit) (with_row key cmp new rows) all e in
      let room : length rows < limit = ltb-true (length rows) limit so.1 in
      let longer : length (with_row key cmp new rows) ≤ length rows + 1 = length-with_row new rows in
      let fits : length (with_row key cmp new rows) ≤ limit = omega (arith, room, longer) in
      record {
        put = sym so.0;
        fits = subst (λ l. length l ≤ limit) so.0 fits;
        by_key = subst (IsByKey key cmp) so.0 (IsByKey-with_row key cmp o new rows h);
      }

  -- a list that has the key
  pub entered_repeated : (limit : ℕ) (new : R) (rows seen : List R) (at : ℕ) → rows ≡ seen → Replaces key cmp new rows at → with_new key cmp limit new seen ≡ Err Repeated
  entered_repeated limit new rows seen at is place = rw (sym is, place.found new) refl
