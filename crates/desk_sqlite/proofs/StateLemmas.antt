-- What a statement leaves of a connection's state, and what it does to a store.
use Rattle.std.proofs.Common.{◌≡◌, ◌&&◌, inl, inr, ℕ, zero, suc, ◌/◌, ℤ, pos, List, [], ◌∷◌, length, map, take, Bool, true, false, Option, option_map, Some, None, Ok, IsTrue, refl, sym, ap, subst, ◌∙◌, true≢false}
use Rattle.std.proofs.lemmas.Cmp.{tied_itself}
use Rattle.std.specs.List.Sorted.{IsSorted}
use Rattle.std.specs.Cmp.Lexicographic.{slice_cmp}
use Rattle.std.specs.declared.cmp.Ordering.TheVariants.{Equal}
use Rattle.std.specs.Ordering.{nat_cmp, is_eq, is_lt, is_gt, ordering_then}
use Rattle.sqlite_value.specs.declared.value.Value.TheVariants.{Int, Blob}
use Rattle.sqlite_value.specs.declared.keys.Collation.TheVariants.{Binary}
use Rattle.sqlite_value.specs.Order.{Row, bytes, column, value_cmp}
use Rattle.sqlite_value.proofs.OrderLemmas.{value_cmp_total, value_cmp-Blob, then-Equal}
use Rattle.sqlite_sql.specs.declared.ops.BinaryOp.TheVariants.{Compare}
use Rattle.sqlite_sql.specs.declared.ops.CompareOp.TheVariants.{Eq, Gt}
use Rattle.sqlite_sql.specs.Ops.{binary, is_true}
use Rattle.sqlite_sql.specs.Term.{Term}
use Rattle.sqlite_sql.specs.Query.{Output, output_cmp}
use Rattle.sqlite_sql.proofs.QueryLemmas.{output_cmp_total}
use Rattle.sqlite_sql.specs.Program.{overlay}
use Rattle.sqlite_schema.specs.declared.command.Returning.{Returning}
use Rattle.sqlite_rules.specs.Lists.{Has}
use Rattle.sqlite_rules.specs.Edit.{are_fresh, is_taken, next_rowid, put_all, without_all}
use Rattle.sqlite_trees.specs.Tree.{put_row, rowid}
use Rattle.sqlite_rules.specs.Calls.{ids_of}
use Rattle.sqlite_resolve.specs.declared.compiled.Compiled.{Compiled}
use Rattle.sqlite.specs.declared.error.Error.{Error}
use Rattle.sqlite.specs.Given.{IsPlain}
use Rattle.sqlite.specs.Effect.{value_rows}
use Rattle.sqlite.specs.Rows.{stamped}
use Rattle.sqlite.proofs.Callers.{command_of}
use Rattle.sqlite_schema.specs.declared.command.Command.TheVariants.{Insert}
use Rattle.sqlite_schema.specs.declared.command.Source.TheVariants.{Values}
use Rattle.sqlite.specs.Listing.{understood}
use Rattle.sqlite.specs.State.{State, IsNotRun, FailsToShow, FailsToQuery, ShowsRows, Shown, ExecutesInside}
use Rattle.desk_edge.specs.Content.{body_after_all, is_past, key_cmp}
use Rattle.desk_edge.specs.declared.change.Change.TheVariants.{Put}
use Rattle.desk_edge.specs.declared.key.Key.{Key}
use Rattle.desk_edge.specs.declared.record.Record.{Record}
use Rattle.desk_edge.proofs.Keys.{key_order}
use Rattle.desk_sqlite.specs.Content.{AreKeyed, IsOf, AreNextWanted, AreLooked, ArePut, IsPut, rows_content}
use Rattle.desk_sqlite.specs.Texts.{first_text, within_text, beyond_text, insert_text, four_text, drop_text}
use Rattle.desk_sqlite.specs.Rows.{is_of, body_kept, AreRowsNumbered}
use Rattle.desk_sqlite.specs.Store.{IsOurs, IsStore, rows_in, Dropped, any_key, is_within, is_beyond}
use Rattle.desk_sqlite.proofs.ContentLemmas.{both_true, drop_numbered, drop_bodies, insert_numbered, insert_bodies}
use Rattle.desk_sqlite.proofs.MeaningLemmas.{drop_tests, drops, inserts, new_row, new_rows, row_of, sources, shows_first, shows_within, shows_beyond, within_tests, beyond_tests}
use Rattle.desk_sqlite.proofs.ReadLemmas.{passes, shown_of, AreListed, listed_in, numbers_in}
use Rattle.desk_sqlite.specs.Table.{record_table, store_schema}
use Rattle.desk_sqlite.proofs.TextLemmas.{first_query, insert_is, insert_plain, four_is, four_plain}
use Rattle.desk_sqlite.proofs.ListLemmas.{has_put, kept_put, le_lt, none_found, not_false, sorted_first, sorted_tail, taken_not}
use Rattle.desk_sqlite.proofs.FindLemmas.{are_keyed}
use Rattle.desk_sqlite.proofs.ValueLemmas.{columns_of, of_columns, number_cmp, number_eq, number_gt, blob_gt}

module _ (sql : List ℕ) (params : Row) (old new : State) where
  not_run_open : (e : Error) → IsNotRun old new sql params e → IsTrue new.is_open → IsTrue old.is_open
  unfolding IsNotRun
  not_run_open e (inl refused) now = refused.1.0.was_open
  not_run_open e (inr failed) now = failed.3.was_open now

  shows_open : (c : Compiled) (given : Row) (rows : List Row) (o : Option Returning) → ShowsRows old new sql c given rows o → IsTrue old.is_open
  shows_open c given rows None h = h.3.0.was_open
  shows_open c given rows (Some what) h = h.1.shown.was_open

  fails_open : (c : Compiled) (given : Row) (e : Error) (o : Option Returning) → FailsToShow old new sql c given e o → IsTrue new.is_open → IsTrue old.is_open
  fails_open c given e None h now = h.3.0.was_open
  fails_open c given e (Some what) (inl refused) now = refused.1.0.was_open
  fails_open c given e (Some what) (inr failed) now = failed.3.was_open now

  shown_open : (rows : List Row) → Shown sql params old new rows → IsTrue old.is_open
  unfolding Shown
  shown_open rows h = shows_open h.0 _ rows h.0.returning h.2

  pub listed_open : (e : Error) → FailsToQuery sql params old new e → IsTrue new.is_open → IsTrue old.is_open
  unfolding FailsToQuery
  listed_open e (inl h) now = not_run_open e h now
  listed_open e (inr h) now = fails_open h.0 _ e h.0.returning h.2 now

  pub all_open : (rows : List Row) → Shown sql params old new rows → IsTrue old.is_open
  all_open = shown_open

  module _ (plain : IsPlain (understood old.now.schema sql)) (settled : old.now ≡ old.committed) where
    not_run_same : (e : Error) → IsNotRun old new sql params e → IsTrue new.is_open → new.now ≡ old.now
    unfolding IsNotRun
    not_run_same e (inl refused) now = refused.1.0.now_is
    not_run_same e (inr failed) now = (failed.3.undone now).0 ∙ sym settled

    shows_same : (c : Compiled) (given : Row) (rows : List Row) (o : Option Returning) → o ≡ None → ShowsRows old new sql c given rows o → new.now ≡ old.now
    shows_same c given rows None none h = h.3.0.now_is
    shows_same c given rows (Some what) none h = absurd (let bad = none in cc)

    fails_same : (c : Compiled) (given : Row) (e : Error) (o : Option Returning) → o ≡ None → FailsToShow old new sql c given e o → new.now ≡ old.now
    fails_same c given e None none h = h.3.0.now_is
    fails_same c given e (Some what) none h = absurd (let bad = none in cc)

    shown_same : (rows : List Row) → Shown sql params old new rows → new.now ≡ old.now
    unfolding Shown
    shown_same rows h = shows_same h.0 _ rows h.0.returning (subst IsPlain h.1.is plain).0 h.2

    pub listed_same : (e : Error) → FailsToQuery sql params old new e → IsTrue new.is_open → new.now ≡ old.now
    unfolding FailsToQuery
    listed_same e (inl h) now = not_run_same e h now
    listed_same e (inr h) now = fails_same h.0 _ e h.0.returning (subst IsPlain h.1.is plain).0 h.2

    pub all_same : (rows : List Row) → Shown sql params old new rows → new.now ≡ old.now
    all_same = shown_same

-- a row of the key that was put in beside the others was the first of its key
none_of : (old new : List Row) (kind : ℕ) (code : List ℕ) (row : Row) (n : ℤ) → AreKeyed new → Has new row → row ≡ row_of n kind code (bytes (column row 3)) → is_taken old row ≡ false
    → ((x : Row) → Has old x → Has new x) → body_kept old kind code ≡ None
none_of old new kind code row n keyed here is free stays = ap (option_map (λ r. bytes (column r 3))) (none_found (is_of kind code) old absent)
  where
    its : is_of kind code row ≡ true
    its = of_columns kind code row (ap (λ r. column r 1) is) (ap (λ r. column r 2) is)

    absent : (x : Row) → Has old x → is_of kind code x ≡ false
    absent x has = go (is_of kind code x) refl
      where
        go : (b : Bool) → is_of kind code x ≡ b → b ≡ false
        go false e = refl
        go true e =
            let same = keyed (record { kind = kind; code = code }) x row (stays x has) here e its in
            let apart : is_eq (value_cmp (rowid row) (rowid row)) ≡ false = subst (λ r. is_eq (value_cmp (rowid r) (rowid row)) ≡ false) same (taken_not old row x free has) in
            let one : is_eq (value_cmp (rowid row) (rowid row)) ≡ true = ap is_eq (tied_itself value_cmp_total (rowid row)) in
            absurd (true≢false (sym one ∙ apart))

-- what stands in a row that was put in stays as others are put in under numbers that none had
stays_all : (rows news : List Row) (x : Row) → are_fresh rows news ≡ true → Has rows x → Has (put_all rows news) x
stays_all rows [] x fresh has = has
stays_all rows (r ∷ news) x fresh has =
    let h = both_true _ _ fresh in
    stays_all (put_row r rows) news x h.1 (kept_put r rows x (not_false _ h.0) has)

numbered_all : (rows : List Row) (records : List Record) → AreRowsNumbered rows → are_fresh rows (new_rows rows records) ≡ true → AreRowsNumbered (put_all rows (new_rows rows records))
numbered_all rows [] numbered fresh = numbered
numbered_all rows (kept ∷ more) numbered fresh =
    let h = both_true _ _ fresh in
    numbered_all (put_row (new_row rows kept) rows) more (insert_numbered rows numbered kept.kind kept.code (next_rowid rows) kept.body (not_false _ h.0)) h.1

-- where no two rows have one key at the end, none of the records had the key of another row
put_in_turn : (last : List Row) → AreKeyed last → (rows : List Row) (records : List Record) → last ≡ put_all rows (new_rows rows records) → AreRowsNumbered rows
    → are_fresh rows (new_rows rows records) ≡ true → ArePut records rows last
put_in_turn last keyed rows [] is numbered fresh = λ key. ap (λ l. rows_content l key) is
put_in_turn last keyed rows (kept ∷ more) is numbered fresh =
    let h = both_true _ _ fresh in
    let free = not_false _ h.0 in
    let row = new_row rows kept in
    let next = put_row row rows in
    let stays : (x : Row) → Has next x → Has last x = λ x has. subst (λ l. Has l x) (sym is) (stays_all next (new_rows next more) x h.1 has) in
    let none = none_of rows last kept.kind kept.code row (next_rowid rows) keyed (stays row (has_put row rows)) refl free (λ x has. stays x (kept_put row rows x free has)) in
    let later = put_in_turn last keyed next more is (insert_numbered rows numbered kept.kind kept.code (next_rowid rows) kept.body free) h.1 in
    λ key. later key ∙ ap (body_after_all (map Put more) key) (insert_bodies rows numbered kept.kind kept.code (next_rowid rows) kept.body free none key.kind key.code)

-- what an insert of four records is told
abbrev pub four_params : Record → Record → Record → Record → Row
four_params first second third fourth =
    Int (pos first.kind) ∷ Blob first.code ∷ Blob first.body
    ∷ Int (pos second.kind) ∷ Blob second.code ∷ Blob second.body
    ∷ Int (pos third.kind) ∷ Blob third.code ∷ Blob third.body
    ∷ Int (pos fourth.kind) ∷ Blob fourth.code ∷ Blob fourth.body
    ∷ []

module _ (old new : State) (store : IsStore old) where
  pub drop_made : (kind : ℕ) (code : List ℕ) (count : ℕ) → ExecutesInside 0 drop_text (Int (pos kind) ∷ Blob code ∷ []) old new (Ok count)
      → IsStore new × Dropped kind code (rows_in old) (rows_in new)
  drop_made kind code count h =
      let checks = store.ours.0 in
      let name = store.ours.1 in
      let it = drops checks name old new store.ours.2 kind code count h.0 in
      let asked = numbers_in drop_tests (overlay old.now.trees []) (Int (pos kind) ∷ Blob code ∷ []) it.1 it.2 in
      let left : rows_in new ≡ without_all (rows_in old) (ids_of it.1) = it.3 in (
        record {
          ours = (checks, name, it.0);
          numbered = subst AreRowsNumbered (sym left) (drop_numbered (rows_in old) store.numbered kind code it.1 asked.0 asked.1);
        },
        λ k c. ap (λ rows. body_kept rows k c) left ∙ drop_bodies (rows_in old) store.numbered kind code it.1 asked.0 asked.1 k c,
      )

  -- an insert of records puts them in, one after the other
  inserted : (sql : List ℕ) (terms : List Term) (params : Row) (records : List Record) (count : ℕ)
      → ((checks : List Term) (name : List ℕ) → IsPlain (understood (store_schema checks name) sql))
      → ((checks : List Term) (name : List ℕ) → command_of (understood (store_schema checks name) sql) ≡ Insert 0 (Values terms 4))
      → ((checks : List Term) → value_rows (stamped (record_table checks) params) 4 (length terms / 4) terms ≡ sources records) → ExecutesInside 0 sql params old new (Ok count) → IsStore new × ArePut records (rows_in old) (rows_in new)
  inserted sql terms params records count plain is from h =
      let checks = store.ours.0 in
      let name = store.ours.1 in
      let it = inserts checks name old new store.ours.2 sql terms params records count (plain checks name) (is checks name) (from checks) h.0 in
      let left : IsStore new = record {
        ours = (checks, name, it.0);
        numbered = subst AreRowsNumbered (sym it.2) (numbered_all (rows_in old) records store.numbered it.1);
      } in
      (left, put_in_turn (rows_in new) (are_keyed new it.3 left) (rows_in old) records it.2 store.numbered it.1)

  pub insert_made : (kept : Record) (count : ℕ) → ExecutesInside 0 insert_text (Int (pos kept.kind) ∷ Blob kept.code ∷ Blob kept.body ∷ []) old new (Ok count)
      → IsStore new × IsPut kept (rows_in old) (rows_in new)
  insert_made kept count h = inserted insert_text _ _ (kept ∷ []) count insert_plain insert_is (λ checks. refl) h

  pub four_made : (first second third fourth : Record) (count : ℕ) → ExecutesInside 0 four_text (four_params first second third fourth) old new (Ok count)
      → IsStore new × ArePut (first ∷ second ∷ third ∷ fourth ∷ []) (rows_in old) (rows_in new)
  four_made first second third fourth count h = inserted four_text _ _ (first ∷ second ∷ third ∷ fourth ∷ []) count four_plain four_is (λ checks. refl) h

-- ---- looks

within_passes : (kind : ℕ) (code : List ℕ) (k : ℕ) (c : List ℕ) (r : Row) → is_of k c r ≡ true
    → passes within_tests (Int (pos kind) ∷ Blob code ∷ []) r ≡ (is_eq (nat_cmp k kind) && (is_gt (slice_cmp nat_cmp c code) && true))
within_passes kind code k c r own =
    let cols = columns_of k c r own in
    ap (λ v. is_true (binary (Compare Eq Binary) v (Int (pos kind))) && (is_true (binary (Compare Gt Binary) (column r 2) (Blob code)) && true)) cols.0
    ∙ ap (λ v. is_true (binary (Compare Eq Binary) (Int (pos k)) (Int (pos kind))) && (is_true (binary (Compare Gt Binary) v (Blob code)) && true)) cols.1
    ∙ ap (λ b. b && (is_true (binary (Compare Gt Binary) (Blob c) (Blob code)) && true)) (number_eq k kind)
    ∙ ap (λ b. is_eq (nat_cmp k kind) && (b && true)) (blob_gt c code)

beyond_passes : (kind : ℕ) (k : ℕ) (c : List ℕ) (r : Row) → is_of k c r ≡ true → passes beyond_tests (Int (pos kind) ∷ []) r ≡ (is_gt (nat_cmp k kind) && true)
beyond_passes kind k c r own =
    ap (λ v. is_true (binary (Compare Gt Binary) v (Int (pos kind))) && true) (columns_of k c r own).0 ∙ ap (λ b. b && true) (number_gt k kind)

and_true : (b : Bool) → (b && true) ≡ b
and_true true = refl
and_true false = refl

-- the order of a look is that of the keys
order_is : (k : ℕ) (c : List ℕ) (x : Row) (own : ℕ) (code : List ℕ) (r : Row) → is_of k c x ≡ true → is_of own code r ≡ true
    → ordering_then (value_cmp (column x 1) (column r 1)) (ordering_then (value_cmp (column x 2) (column r 2)) Equal) ≡ ordering_then (nat_cmp k own) (slice_cmp nat_cmp c code)
order_is k c x own code r hx hr =
    let a = columns_of k c x hx in
    let b = columns_of own code r hr in
    rw (a.0, a.1, b.0, b.1, number_cmp k own, value_cmp-Blob c code, then-Equal (slice_cmp nat_cmp c code)) refl

module _ (tests : List Term) (params : Row) (rows : List Row) (wanted : ℕ → List ℕ → Bool)
    (meant : (k : ℕ) (c : List ℕ) (r : Row) → is_of k c r ≡ true → passes tests params r ≡ wanted k c) where
  -- a row that is shown as another has its key
  one_key : (key own : Key) (x r : Row) → IsOf key x → IsOf own r → shown_of tests params x ≡ shown_of tests params r → key ≡ own
  one_key key own x r hx hr same =
      let a = columns_of key.kind key.code x hx in
      let b = columns_of own.kind own.code r hr in
      let shown = ap (λ (o : Output). o.1) same in
      let one : Int (pos key.kind) ≡ Int (pos own.kind) = sym a.0 ∙ ap (λ l. column l 0) shown ∙ b.0 in
      let two : Blob key.code ≡ Blob own.code = sym a.1 ∙ ap (λ l. column l 1) shown ∙ b.1 in
      let kind : key.kind ≡ own.kind = cc in
      let code : key.code ≡ own.code = cc in
      rw (kind, code) refl

  -- an order of the shown ones is that of the keys
  key_order_is : (key own : Key) (x r : Row) → IsOf key x → IsOf own r → is_lt (output_cmp (first_query tests) (shown_of tests params x) (shown_of tests params r)) ≡ false → is_lt (key_cmp key own) ≡ false
  key_order_is key own x r hx hr h = sym (ap is_lt (order_is key.kind key.code x own.kind own.code r hx hr)) ∙ h

  run : (n : ℕ) (os : List Output) (bound : Option Key) → IsSorted (output_cmp (first_query tests)) os
      → ((o : Output) → Has os o → (r : Row) × Has rows r × (passes tests params r ≡ true) × (o ≡ shown_of tests params r))
      → ((key : Key) (x : Row) → Has rows x → IsOf key x → wanted key.kind key.code ≡ true → is_past bound key ≡ true → Has os (shown_of tests params x))
      → ((o : Output) → Has os o → (r : Row) → o ≡ shown_of tests params r → (own : Key) → IsOf own r → (key : Key) → is_past (Some own) key ≡ true → is_past bound key ≡ true)
      → AreNextWanted wanted bound rows (take n (map (λ (o : Output). o.1) os))
  run zero os bound sorted from there rises = tt
  run (suc n) [] bound sorted from there rises = tt
  run (suc n) (o ∷ os) bound sorted from there rises = (
    r.0,
    r.1,
    ap (λ (k : Output). k.1) r.3,
    λ own hr. (
      sym (meant own.kind own.code r.0 hr) ∙ r.2,
      λ key x has hx good past. first key x hx own hr (there key x has hx good past),
      run n os (Some own) (sorted_tail (output_cmp (first_query tests)) o os sorted) (λ p hp. from p (inr hp))
          (λ key x has hx good past. behind key x hx own hr past (there key x has hx good (rises o (inl refl) r.0 r.3 own hr key past)))
          (λ p hp r′ is own′ hr′ key past. le_lt key_order own own′ key (low p hp r′ is own′ hr′ own hr) past),
    ),
  )
    where
      r : (r : Row) × Has rows r × (passes tests params r ≡ true) × (o ≡ shown_of tests params r)
      r = from o (inl refl)

      first : (key : Key) (x : Row) → IsOf key x → (own : Key) → IsOf own r.0 → Has (o ∷ os) (shown_of tests params x) → is_lt (key_cmp key own) ≡ false
      first key x hx own hr has =
          key_order_is key own x r.0 hx hr
          (subst (λ k. is_lt (output_cmp (first_query tests) (shown_of tests params x) k) ≡ false) r.3
          (sorted_first (output_cmp (first_query tests)) (output_cmp_total (first_query tests)) o os sorted (shown_of tests params x) has))

      low : (p : Output) → Has os p → (r′ : Row) → p ≡ shown_of tests params r′ → (own′ : Key) → IsOf own′ r′ → (own : Key) → IsOf own r.0 → is_lt (key_cmp own′ own) ≡ false
      low p hp r′ is own′ hr′ own hr = first own′ r′ hr′ own hr (inr (subst (Has os) is hp))

      behind : (key : Key) (x : Row) → IsOf key x → (own : Key) → IsOf own r.0 → is_past (Some own) key ≡ true → Has (o ∷ os) (shown_of tests params x) → Has os (shown_of tests params x)
      behind key x hx own hr past (inr has) = has
      behind key x hx own hr past (inl e) =
          let same = one_key key own x r.0 hx hr (e ∙ r.3) in
          absurd (true≢false (sym past ∙ ap (λ k. is_lt (key_cmp own k)) same ∙ ap is_lt (tied_itself key_order own)))

  looked : (shown : List Row) → AreListed tests params rows shown → AreLooked wanted rows shown
  looked shown l = subst (AreLooked wanted rows) (sym l.is) (go l.ordered refl)
    where
      go : (os : List Output) → l.ordered ≡ os → AreLooked wanted rows (take 64 (map (λ (o : Output). o.1) os))
      go [] is = λ key x has hx. none key x has hx (wanted key.kind key.code) refl
        where
          none : (key : Key) (x : Row) → Has rows x → IsOf key x → (b : Bool) → wanted key.kind key.code ≡ b → b ≡ false
          none key x has hx false e = refl
          none key x has hx true e = absurd (subst (λ all. Has all (shown_of tests params x)) is (l.there x has (meant key.kind key.code x hx ∙ e)))
      go (o ∷ os) is =
          subst (λ all. AreNextWanted wanted None rows (take 64 (map (λ (k : Output). k.1) all))) is
          (run 64 l.ordered None l.sorted l.from (λ key x has hx good past. l.there x has (meant key.kind key.code x hx ∙ good)) (λ _ _ _ _ _ _ _ _. refl))

module _ (old new : State) (ours : IsOurs old.now.schema) where
  pub look_first : (shown : List Row) → Shown first_text [] old new shown → AreLooked any_key (rows_in old) shown
  look_first shown h =
      looked [] [] (rows_in old) any_key (λ k c r own. refl) shown (listed_in [] (overlay old.now.trees []) [] shown (shows_first ours.0 ours.1 old new ours.2 shown h))

  pub look_within : (kind : ℕ) (code : List ℕ) (shown : List Row) → Shown within_text (Int (pos kind) ∷ Blob code ∷ []) old new shown → AreLooked (is_within kind code) (rows_in old) shown
  look_within kind code shown h =
      looked within_tests (Int (pos kind) ∷ Blob code ∷ []) (rows_in old) (is_within kind code)
      (λ k c r own. within_passes kind code k c r own ∙ ap (λ b. is_eq (nat_cmp k kind) && b) (and_true _)) shown
      (listed_in within_tests (overlay old.now.trees []) (Int (pos kind) ∷ Blob code ∷ []) shown (shows_within ours.0 ours.1 old new ours.2 kind code shown h))

  pub look_beyond : (kind : ℕ) (shown : List Row) → Shown beyond_text (Int (pos kind) ∷ []) old new shown → AreLooked (is_beyond kind) (rows_in old) shown
  look_beyond kind shown h =
      looked beyond_tests (Int (pos kind) ∷ []) (rows_in old) (is_beyond kind) (λ k c r own. beyond_passes kind k c r own ∙ and_true _) shown
      (listed_in beyond_tests (overlay old.now.trees []) (Int (pos kind) ∷ []) shown (shows_beyond ours.0 ours.1 old new ours.2 kind shown h))
