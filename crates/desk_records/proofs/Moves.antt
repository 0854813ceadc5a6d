-- What a change makes of a look-up among the records of one table.
use Rattle.std.proofs.Common.{◌≡◌, Bool, true, false, cond, List, [], ◌∷◌, map, refl, sym, ap, ◌∙◌, Ordering, Less, Equal, Greater, is_eq, Option, Some, None}
use Rattle.std.specs.Cmp.{IsTotalOrder}
use Rattle.std.specs.List.{AllByRecursion}
use Rattle.std.proofs.lemmas.Bool.{false≢true}
use Rattle.std.proofs.lemmas.Cmp.{alike_right}
use Rattle.desk_edge.specs.Content.{key_cmp, key_of, same_key}
use Rattle.desk_edge.specs.declared.key.Key.{Key}
use Rattle.desk_edge.specs.declared.record.Record.{Record}
use Rattle.desk_edge.proofs.Keys.{key_order}
use Rattle.desk_model.specs.declared.row.Row.{Row}
use Rattle.desk_rows.specs.Rows.{IsByKey, row_of, with_row, without_row}
use Rattle.desk_rows.proofs.Order.{AllAbove, first_above, greater_back, rest_by_key}
use Rattle.desk_records.specs.Records.{record_of}

-- the record of a key
abbrev pub look : List Record → Key → Option Record
look records key = row_of key_of key_cmp key records

-- no record has the key
abbrev pub AllNot : Key → List Record → Type 0
AllNot key records = AllByRecursion (λ kept. same_key (key_of kept) key ≡ false) records

pub is_equal : (a : Ordering) → is_eq a ≡ true → a ≡ Equal
is_equal Less e = absurd (false≢true e)
is_equal Equal e = refl
is_equal Greater e = absurd (false≢true e)

-- two keys that are one are one with the same others
pub same_left : (j k x : Key) → same_key j k ≡ true → same_key x j ≡ same_key x k
same_left j k x e = ap is_eq (alike_right key_order j k x (is_equal (key_cmp j k) e))

same_right : (j k x : Key) → same_key j k ≡ true → same_key j x ≡ same_key k x
same_right j k x e = ap is_eq (key_order.congr j k x (is_equal (key_cmp j k) e))

pub none_at : (j k : Key) (records : List Record) → same_key j k ≡ true → AllNot j records → look records k ≡ None
none_at j k [] e a = refl
none_at j k (kept ∷ records) e a = rw (sym (same_left j k (key_of kept) e) ∙ a.0) (none_at j k records e a.1)

module _ {R K : Type 0} (key : R → K) (cmp : K → K → Ordering) (o : IsTotalOrder cmp) (as_row : R → Row) where
  -- the records of the rows of one table
  abbrev pub records_in : List R → List Record
  records_in rows = map record_of (map as_row rows)

  -- a row has the record's key exactly where it has the table's
  abbrev pub Agree : K → Key → List R → Type 0
  Agree j k rows = AllByRecursion (λ row. same_key (key_of (record_of (as_row row))) k ≡ is_eq (cmp (key row) j)) rows

  put_step : (new row : R) (rows : List R) (k : Key) (a : Ordering) (same : Bool) → cmp (key row) (key new) ≡ a → same_key (key_of (record_of (as_row new))) k ≡ same
      → same_key (key_of (record_of (as_row row))) (key_of (record_of (as_row new))) ≡ is_eq a
      → look (records_in (with_row key cmp new rows)) k ≡ cond same (Some (record_of (as_row new))) (look (records_in rows) k)
      → look (records_in (with_row key cmp new (row ∷ rows))) k ≡ cond (same_key (key_of (record_of (as_row new))) k) (Some (record_of (as_row new))) (look (records_in (row ∷ rows)) k)
  put_step new row rows k Less true e n s ih =
      let other : same_key (key_of (record_of (as_row row))) k ≡ false = sym (same_left (key_of (record_of (as_row new))) k (key_of (record_of (as_row row))) n) ∙ s in
      rw (e, n, other) ih
  put_step new row rows k Less false e n s ih = rw (e, n) (ap (λ found. cond (same_key (key_of (record_of (as_row row))) k) (Some (record_of (as_row row))) found) ih)
  put_step new row rows k Equal true e n s ih = rw (e, n) refl
  put_step new row rows k Equal false e n s ih =
      let other : same_key (key_of (record_of (as_row row))) k ≡ false = same_right (key_of (record_of (as_row row))) (key_of (record_of (as_row new))) k s ∙ n in
      rw (e, n, other) refl
  put_step new row rows k Greater same e n s ih = rw e refl

  -- a row that goes in is found, and else what was found before
  pub put_in : (new : R) (rows : List R) → Agree (key new) (key_of (record_of (as_row new))) rows → (k : Key)
      → look (records_in (with_row key cmp new rows)) k ≡ cond (same_key (key_of (record_of (as_row new))) k) (Some (record_of (as_row new))) (look (records_in rows) k)
  put_in new [] a k = refl
  put_in new (row ∷ rows) a k = put_step new row rows k (cmp (key row) (key new)) (same_key (key_of (record_of (as_row new))) k) refl refl a.0 (put_in new rows a.1 k)

  drop_step : (j : K) (dropped : Key) (row : R) (rows : List R) (k : Key) (here same : Bool) → is_eq (cmp (key row) j) ≡ here → same_key dropped k ≡ same
      → same_key (key_of (record_of (as_row row))) dropped ≡ here → (here ≡ true → AllNot dropped (records_in rows))
      → look (records_in (without_row key cmp j rows)) k ≡ cond same None (look (records_in rows) k)
      → look (records_in (without_row key cmp j (row ∷ rows))) k ≡ cond (same_key dropped k) None (look (records_in (row ∷ rows)) k)
  drop_step j dropped row rows k true true e n s none ih = rw (e, n) (none_at dropped k (records_in rows) n (none refl))
  drop_step j dropped row rows k true false e n s none ih =
      let other : same_key (key_of (record_of (as_row row))) k ≡ false = same_right (key_of (record_of (as_row row))) dropped k s ∙ n in
      rw (e, n, other) refl
  drop_step j dropped row rows k false true e n s none ih =
      let other : same_key (key_of (record_of (as_row row))) k ≡ false = sym (same_left dropped k (key_of (record_of (as_row row))) n) ∙ s in
      rw (e, n, other) ih
  drop_step j dropped row rows k false false e n s none ih = rw (e, n) (ap (λ found. cond (same_key (key_of (record_of (as_row row))) k) (Some (record_of (as_row row))) found) ih)

  pub none_above : (j : K) (dropped : Key) (row : R) (rows : List R) → cmp (key row) j ≡ Equal → AllAbove key cmp o (key row) rows → Agree j dropped rows → AllNot dropped (records_in rows)
  none_above j dropped row [] e above a = tt
  none_above j dropped row (next ∷ rows) e above a = (
    a.0 ∙ ap is_eq (greater_back key cmp o j (key next) (sym (o.congr (key row) j (key next) e) ∙ above.0)),
    none_above j dropped row rows e above.1 a.1,
  )

  -- a row that is taken out isn't found, and else what was found before
  pub taken_out : (j : K) (dropped : Key) (rows : List R) → IsByKey key cmp rows → Agree j dropped rows → (k : Key)
      → look (records_in (without_row key cmp j rows)) k ≡ cond (same_key dropped k) None (look (records_in rows) k)
  taken_out j dropped [] h a k = elim (same_key dropped k) as (λ b. ◌≡◌ {A = Option Record} None (cond b None None)) [ true ↦ refl | false ↦ refl ]
  taken_out j dropped (row ∷ rows) h a k =
      drop_step j dropped row rows k (is_eq (cmp (key row) j)) (same_key dropped k) refl refl a.0
      (λ here. none_above j dropped row rows (is_equal (cmp (key row) j) here) (first_above key cmp o row rows h) a.1)
      (taken_out j dropped rows (rest_by_key key cmp o row rows h) a.1 k)
