-- What the looks find of the records that the rows keep.
use Rattle.std.proofs.Common.{◌≡◌, ◌⊎◌, ◌&&◌, ◌||◌, not, inl, inr, ℕ, ℤ, pos, List, [], ◌∷◌, ◌++◌, length, arith, find, Bool, true, false, cond, Option, option_map, Some, None, refl, sym, ap, subst, ◌∙◌, true≢false}
use Rattle.std.proofs.lemmas.Cmp.{nat_cmp_total, nat_list_cmp_total}
use Rattle.std.specs.Cmp.Lexicographic.{slice_cmp}
use Rattle.std.specs.List.{list_any}
use Rattle.std.specs.declared.cmp.Ordering.{Ordering}
use Rattle.std.specs.declared.cmp.Ordering.TheVariants.{Less, Equal, Greater}
use Rattle.std.specs.Ordering.{nat_cmp, is_eq, is_ne, is_lt, is_gt, ordering_then, ordering_reverse}
use Rattle.sqlite_value.specs.declared.value.Value.TheVariants.{Int, Blob}
use Rattle.sqlite_value.specs.declared.keys.Collation.TheVariants.{Binary}
use Rattle.sqlite_value.specs.Order.{Row, column, bytes, value_cmp}
use Rattle.sqlite_value.specs.Keys.{plain}
use Rattle.sqlite_value.proofs.KeyLemmas.{first_key-plain}
use Rattle.sqlite_trees.specs.Tree.{rowid}
use Rattle.sqlite_sql.specs.Ops.{binary, from_truth, is_true}
use Rattle.sqlite_schema.specs.declared.schema.Constraint.TheVariants.{Unique}
use Rattle.sqlite_schema.specs.Rules.{Keeps, agree, differ, clashes, equal}
use Rattle.sqlite_rules.specs.Lists.{Has}
use Rattle.sqlite_rules.proofs.ListLemmas.{all_has, some_from}
use Rattle.sqlite.specs.Effect.{IsDatabase}
use Rattle.sqlite.specs.State.{State}
use Rattle.desk_edge.specs.Content.{IsFirstOf, IsFirstPast, is_past, key_cmp, key_of}
use Rattle.desk_edge.proofs.Keys.{key_order}
use Rattle.desk_edge.specs.declared.key.Key.{Key}
use Rattle.desk_edge.specs.declared.record.Record.{Record}
use Rattle.desk_sqlite.specs.Content.{rows_content, IsPut, IsOf, AreKeyed, AreNextWanted, AreLooked, AreNextRows, AreFirstRows, AreNextPast, AreFirstPast, AreShown, IsShown}
use Rattle.desk_sqlite.specs.Rows.{is_of, body_kept, same_kind_and_code}
use Rattle.desk_sqlite.specs.Store.{IsStore, rows_in, Dropped, any_key, is_within, is_beyond}
use Rattle.desk_sqlite.proofs.ContentLemmas.{both_true, same_number, number_itself}
use Rattle.desk_sqlite.proofs.ListLemmas.{find_only, le_lt}
use Rattle.desk_sqlite.proofs.ValueLemmas.{columns_of, of_columns, number_eq, blob_eq, bytes_itself, same_int}
use Rattle.sqlite_rules.proofs.ListLemmas.{has_found}

-- ---- changes

twice : {X : Type 0} (b : Bool) (x y : Option X) → cond b x (cond b None y) ≡ cond b x y
twice true x y = refl
twice false x y = refl

pub put_made : (kept : Record) (old mid new : List Row) → Dropped kept.kind kept.code old mid → IsPut kept mid new → IsPut kept old new
put_made kept old mid new d i k =
    i k ∙ ap (λ o. cond (same_kind_and_code kept.kind kept.code k.kind k.code) (Some kept.body) o) (d k.kind k.code) ∙ twice (same_kind_and_code kept.kind kept.code k.kind k.code) (Some kept.body) (body_kept old k.kind k.code)

-- ---- looks

lt_gt : (o : Ordering) → is_gt (ordering_reverse o) ≡ is_lt o
lt_gt Less = refl
lt_gt Equal = refl
lt_gt Greater = refl

eq_eq : (o : Ordering) → is_eq (ordering_reverse o) ≡ is_eq o
eq_eq Less = refl
eq_eq Equal = refl
eq_eq Greater = refl

split : (o p : Ordering) → is_lt (ordering_then o p) ≡ ((is_eq o && is_lt p) || is_lt o)
split Less p = refl
split Equal Less = refl
split Equal Equal = refl
split Equal Greater = refl
split Greater p = refl

-- a key is past another exactly where it is within its kind and past its code, or beyond its kind
past_is : (after key : Key) → is_past (Some after) key ≡ (is_within after.kind after.code key.kind key.code || is_beyond after.kind key.kind key.code)
past_is after key =
    split (nat_cmp after.kind key.kind) (slice_cmp nat_cmp after.code key.code)
    ∙ ap (λ b. (b && is_lt (slice_cmp nat_cmp after.code key.code)) || is_lt (nat_cmp after.kind key.kind)) (sym (eq_eq (nat_cmp after.kind key.kind)) ∙ ap is_eq (sym (nat_cmp_total.antisymm key.kind after.kind)))
    ∙ ap (λ b. (is_eq (nat_cmp key.kind after.kind) && b) || is_lt (nat_cmp after.kind key.kind)) (sym (lt_gt (slice_cmp nat_cmp after.code key.code)) ∙ ap is_gt (sym (nat_list_cmp_total.antisymm key.code after.code)))
    ∙ ap (λ b. (is_eq (nat_cmp key.kind after.kind) && is_gt (slice_cmp nat_cmp key.code after.code)) || b) (sym (lt_gt (nat_cmp after.kind key.kind)) ∙ ap is_gt (sym (nat_cmp_total.antisymm key.kind after.kind)))

-- a key past another is the greater of the two
pub past_gt : (own key : Key) → is_gt (key_cmp own key) ≡ is_past (Some key) own
past_gt own key = ap is_gt (key_order.antisymm own key) ∙ lt_gt (key_cmp key own)

either_true : (a b : Bool) → (a || b) ≡ true → (a ≡ true) ⊎ (b ≡ true)
either_true true b e = inl refl
either_true false b e = inr e

greater : (o p : Ordering) → is_gt o ≡ true → is_lt (ordering_then o p) ≡ false
greater Less p e = absurd (true≢false (sym e))
greater Equal p e = absurd (true≢false (sym e))
greater Greater p e = refl

-- the key stands behind all wanted keys
abbrev Above : (ℕ → List ℕ → Bool) → Key → Type 0
Above wanted key = (other : Key) → wanted other.kind other.code ≡ true → is_lt (key_cmp key other) ≡ false

-- where what is past a wanted key is wanted too or stands behind all wanted keys, rows that were looked for are the next ones
module _ (rows : List Row) (wanted : ℕ → List ℕ → Bool) where
  convert : ((own : Key) → wanted own.kind own.code ≡ true → (key : Key) → is_past (Some own) key ≡ true → (wanted key.kind key.code ≡ true) ⊎ Above wanted key) → (bound after : Option Key)
      → ((key : Key) → is_past after key ≡ true → ((wanted key.kind key.code ≡ true) × (is_past bound key ≡ true)) ⊎ Above wanted key) → (shown : List Row) → AreNextWanted wanted bound rows shown → AreNextRows after rows shown
  convert on bound after first [] h = tt
  convert on bound after first (shown ∷ more) h = (
    h.0,
    h.1,
    h.2,
    λ own is. (
      λ key x has hx past. least own is key x has hx (first key past),
      convert on (Some own) (Some own) (λ key past. next own is key past (on own (h.3 own is).0 key past)) more (h.3 own is).2,
    ),
  )
    where
      least : (own : Key) → IsOf own h.0 → (key : Key) (x : Row) → Has rows x → IsOf key x → ((wanted key.kind key.code ≡ true) × (is_past bound key ≡ true)) ⊎ Above wanted key → is_lt (key_cmp key own) ≡ false
      least own is key x has hx (inl w) = (h.3 own is).1 key x has hx w.0 w.1
      least own is key x has hx (inr above) = above own (h.3 own is).0

      next : (own : Key) → IsOf own h.0 → (key : Key) → is_past (Some own) key ≡ true → (wanted key.kind key.code ≡ true) ⊎ Above wanted key
          → ((wanted key.kind key.code ≡ true) × (is_past (Some own) key ≡ true)) ⊎ Above wanted key
      next own is key past (inl w) = inl (w, past)
      next own is key past (inr above) = inr above

pub first_of_all : (rows shown : List Row) → AreLooked any_key rows shown → AreFirstRows None rows shown
first_of_all rows [] look = λ key x has own. look key x has own
first_of_all rows (shown ∷ more) look = convert rows any_key (λ own w key past. inl refl) None None (λ key past. inl (refl, refl)) (shown ∷ more) look

-- what is past a key that is past another is past that
past_on : (after own key : Key) → is_past (Some after) own ≡ true → is_past (Some own) key ≡ true → is_past (Some after) key ≡ true
past_on after own key one two = le_lt key_order after own key (not_less (key_cmp after own) (key_cmp own after) one (key_order.antisymm own after)) two
  where
    not_less : (o p : Ordering) → is_lt o ≡ true → p ≡ ordering_reverse o → is_lt p ≡ false
    not_less Less p e is = ap is_lt is
    not_less Equal p e is = absurd (true≢false (sym e))
    not_less Greater p e is = absurd (true≢false (sym e))

-- where the one holds or the other, and the first does
or_left : (a b : Bool) → a ≡ true → (a || b) ≡ true
or_left true b e = refl
or_left false b e = absurd (true≢false (sym e))

or_right : (a b : Bool) → b ≡ true → (a || b) ≡ true
or_right true b e = refl
or_right false b e = e

-- a key of a later kind stands behind all keys of this one
above_within : (after key : Key) → is_beyond after.kind key.kind key.code ≡ true → (other : Key) → is_within after.kind after.code other.kind other.code ≡ true → is_lt (key_cmp key other) ≡ false
above_within after key beyond other within =
    let one : other.kind ≡ after.kind = same_number other.kind after.kind (both_true _ _ within).0 in
    greater (nat_cmp key.kind other.kind) (slice_cmp nat_cmp key.code other.code) (subst (λ k. is_gt (nat_cmp key.kind k) ≡ true) (sym one) beyond)

within_or : (after key : Key) → (is_within after.kind after.code key.kind key.code ≡ true) ⊎ (is_beyond after.kind key.kind key.code ≡ true)
    → (is_within after.kind after.code key.kind key.code ≡ true) ⊎ Above (is_within after.kind after.code) key
within_or after key (inl within) = inl within
within_or after key (inr beyond) = inr (above_within after key beyond)

first_within : (after : Key) (rows : List Row) (shown : Row) (more : List Row) → AreLooked (is_within after.kind after.code) rows (shown ∷ more) → AreFirstRows (Some after) rows (shown ∷ more)
first_within after rows shown more look =
    convert rows (is_within after.kind after.code)
    (λ own w key past. within_or after key (either_true _ _ (sym (past_is after key) ∙ past_on after own key (past_is after own ∙ or_left _ _ w) past)))
    None (Some after) (λ key past. wants key (within_or after key (either_true _ _ (sym (past_is after key) ∙ past)))) (shown ∷ more) look
  where
    wants : (key : Key) → (is_within after.kind after.code key.kind key.code ≡ true) ⊎ Above (is_within after.kind after.code) key
        → ((is_within after.kind after.code key.kind key.code ≡ true) × (true ≡ true)) ⊎ Above (is_within after.kind after.code) key
    wants key (inl w) = inl (w, refl)
    wants key (inr above) = inr above

pub first_some : (after : Key) (rows shown : List Row) → (shown ≡ [] → ⊥) → AreLooked (is_within after.kind after.code) rows shown → AreFirstRows (Some after) rows shown
first_some after rows [] some look = absurd (some refl)
first_some after rows (shown ∷ more) some look = first_within after rows shown more look

-- a key past one of a later kind is of a later kind
beyond_on : (after own key : Key) → is_beyond after.kind own.kind own.code ≡ true → is_past (Some own) key ≡ true
    → (is_within after.kind after.code key.kind key.code ≡ true) ⊎ (is_beyond after.kind key.kind key.code ≡ true) → is_beyond after.kind key.kind key.code ≡ true
beyond_on after own key beyond past (inr is) = is
beyond_on after own key beyond past (inl within) =
    let one : key.kind ≡ after.kind = same_number key.kind after.kind (both_true _ _ within).0 in
    let not_past = greater (nat_cmp own.kind key.kind) (slice_cmp nat_cmp own.code key.code) (subst (λ k. is_gt (nat_cmp own.kind k) ≡ true) (sym one) beyond) in
    absurd (true≢false (sym past ∙ not_past))

pub first_beyond : (after : Key) (rows shown : List Row) → AreLooked (is_within after.kind after.code) rows [] → AreLooked (is_beyond after.kind) rows shown → AreFirstRows (Some after) rows shown
first_beyond after rows [] none look =
    λ key x has own. past_is after key ∙ ap (λ b. b || is_beyond after.kind key.kind key.code) (none key x has own) ∙ look key x has own
first_beyond after rows (shown ∷ more) none look = go (shown ∷ more) look
  where
    go : (all : List Row) → AreNextWanted (is_beyond after.kind) None rows all → AreNextRows (Some after) rows all
    go [] h = tt
    go (s ∷ rest) h = (
      h.0,
      h.1,
      h.2,
      λ own is. (
        λ key x has hx past. (h.3 own is).1 key x has hx (sym (ap (λ b. b || is_beyond after.kind key.kind key.code) (none key x has hx)) ∙ sym (past_is after key) ∙ past) refl,
        convert rows (is_beyond after.kind)
            (λ it w key past. inl (on it w key past)) (Some own) (Some own) (λ key past. inl (on own (h.3 own is).0 key past, past)) rest (h.3 own is).2,
      ),
    )
      where
        on : (it : Key) → is_beyond after.kind it.kind it.code ≡ true → (key : Key) → is_past (Some it) key ≡ true → is_beyond after.kind key.kind key.code ≡ true
        on it w key past = beyond_on after it key w past (either_true _ _ (sym (past_is after key) ∙ past_on after it key (past_is after it ∙ or_right _ _ w) past))

-- ---- keys

equal_number : (m : ℕ) → equal Binary (Int (pos m)) (Int (pos m)) ≡ true
equal_number m = number_eq m m ∙ number_itself m

equal_blob : (a : List ℕ) → equal Binary (Blob a) (Blob a) ≡ true
equal_blob a = blob_eq a a ∙ bytes_itself a

ne_eq : (o : Ordering) → is_ne o ≡ false → is_eq o ≡ true
ne_eq Less e = absurd (true≢false e)
ne_eq Equal e = refl
ne_eq Greater e = absurd (true≢false e)

truth_ne : (b : Bool) → is_true (from_truth (Some b)) ≡ b
truth_ne true = refl
truth_ne false = refl

not_differ : (m n : ℤ) → differ (Int m) (Int n) ≡ false → m ≡ n
unfolding binary
not_differ m n e = same_int m n (ne_eq (value_cmp (Int m) (Int n)) (sym (truth_ne (is_ne (value_cmp (Int m) (Int n)))) ∙ e))

-- two rows of one key agree under the index of the keys
agrees : (kind : ℕ) (code : List ℕ) (a b : Row) → is_of kind code a ≡ true → is_of kind code b ≡ true → agree plain (1 ∷ 2 ∷ []) a (1 ∷ 2 ∷ []) b ≡ true
agrees kind code a b ha hb =
    let p = columns_of kind code a ha in
    let q = columns_of kind code b hb in
    rw (first_key-plain, p.0, p.1, q.0, q.1, equal_number kind, equal_blob code) refl

and_false : (a b : Bool) → a ≡ true → (a && b) ≡ false → b ≡ false
and_false true b t e = e
and_false false b t e = absurd (true≢false (sym t))

none_clash : (a b : Bool) → (not (true && a) && b) ≡ true → a ≡ false
none_clash true b e = absurd (true≢false (sym e))
none_clash false b e = refl

any_not : {X : Type 0} (p : X → Bool) (xs : List X) (x : X) → Has xs x → list_any p xs ≡ false → p x ≡ false
any_not p xs x there e = go (p x) refl
  where
    go : (b : Bool) → p x ≡ b → b ≡ false
    go false is = refl
    go true is = absurd (true≢false (sym (some_from p xs x there is) ∙ e))

pub are_keyed : (s : State) → IsDatabase s.now → IsStore s → AreKeyed (rows_in s)
are_keyed s live store key a b ha hb oa ob =
    let rules = subst (λ schema. Keeps Unique schema s.now.trees) store.ours.2 (live.obeys.rules Unique) in
    let mine = all_has _ (rows_in s) a rules.0 ha in
    let apart = any_not _ (rows_in s) b hb (none_clash (clashes plain (1 ∷ 2 ∷ []) (rows_in s) a) _ mine) in
    let differs = and_false (agree plain (1 ∷ 2 ∷ []) b (1 ∷ 2 ∷ []) a) (differ (rowid b) (rowid a)) (agrees key.kind key.code b a ob oa) apart in
    let m = store.numbered.number a ha in
    let n = store.numbered.number b hb in
    let same : n.0 ≡ m.0 = not_differ n.0 m.0 (sym (ap (λ v. differ v (Int m.0)) n.1) ∙ sym (ap (λ v. differ (rowid b) v) m.1) ∙ differs) in
    store.numbered.apart a b ha hb (m.1 ∙ ap Int (sym same) ∙ sym n.1)

-- ---- what is found is the first that is kept

module _ (rows : List Row) (keyed : AreKeyed rows) (after : Option Key) where
  found_row : (key : Key) (o : Option Row) → find (is_of key.kind key.code) rows ≡ o → ((x : Row) → Has rows x → IsOf key x → ⊥) → option_map (λ row. bytes (column row 3)) o ≡ None
  found_row key None is none = refl
  found_row key (Some x) is none = let f = has_found (is_of key.kind key.code) rows x is in absurd (none x f.0 f.1)

  pub none_past : AreFirstRows after rows [] → IsFirstPast (rows_content rows) after None
  none_past h key past = found_row key (find (is_of key.kind key.code) rows) refl (λ x there own. true≢false (sym past ∙ h key x there own))

  some_past : (kept : Record) (shown row : Row) → IsShown kept shown → Has rows row → shown ≡ column row 1 ∷ column row 2 ∷ column row 3 ∷ [] → IsOf (key_of kept) row
      → ((key : Key) (x : Row) → Has rows x → IsOf key x → is_past after key ≡ true → is_lt (key_cmp key (key_of kept)) ≡ false) → IsFirstOf (rows_content rows) after kept
  some_past kept shown row is there same own least =
      let body : column row 3 ≡ Blob kept.body = sym (ap (λ r. column r 2) same) ∙ is.body in (
        ap (option_map (λ r. bytes (column r 3))) (find_only (is_of kept.kind kept.code) rows row there own (λ y has hy. keyed (key_of kept) y row has there hy own)) ∙ ap (λ v. Some (bytes v)) body,
        λ key past less. found_row key (find (is_of key.kind key.code) rows) refl (λ x has hx. true≢false (sym less ∙ least key x has hx past)),
      )

-- the records that rows show come as these do
pub records_next : (rows : List Row) → AreKeyed rows → (after : Option Key) (records : List Record) (shown : List Row) → AreShown records shown → AreNextRows after rows shown → AreNextPast (rows_content rows) after records
records_next rows keyed after [] shown is next = tt
records_next rows keyed after (kept ∷ more) [] is next = absurd is
records_next rows keyed after (kept ∷ more) (shown ∷ rest) is next =
    let row = next.0 in
    let own : IsOf (key_of kept) row = of_columns kept.kind kept.code row (sym (ap (λ r. column r 0) next.2) ∙ is.0.kind) (sym (ap (λ r. column r 1) next.2) ∙ is.0.code) in (
      some_past rows keyed after kept shown row is.0 next.1 next.2 own (next.3 (key_of kept) own).0,
      records_next rows keyed (Some (key_of kept)) more rest is.1 (next.3 (key_of kept) own).1,
    )

pub records_first : (rows : List Row) → AreKeyed rows → (after : Option Key) (records : List Record) (shown : List Row) → (records ≡ [] → shown ≡ []) → AreShown records shown → AreFirstRows after rows shown
    → AreFirstPast (rows_content rows) after records
records_first rows keyed after [] [] none is first = none_past rows keyed after first
records_first rows keyed after [] (shown ∷ rest) none is first = absurd (let bad = none refl in cc)
records_first rows keyed after (kept ∷ more) [] none is first = absurd is
records_first rows keyed after (kept ∷ more) (shown ∷ rest) none is first = records_next rows keyed after (kept ∷ more) (shown ∷ rest) is first

pub shown_more : (records : List Record) (shown rest : List Row) → AreShown records shown → AreShown records (shown ++ rest)
shown_more [] shown rest is = tt
shown_more (k ∷ ks) [] rest is = absurd is
shown_more (k ∷ ks) (s ∷ ss) rest is = (is.0, shown_more ks ss rest is.1)

-- one more record, where all rows so far show one
pub shown_push : (records : List Record) (shown : List Row) (kept : Record) (row : Row) → length records ≡ length shown → AreShown records shown → IsShown kept row → AreShown (records ++ kept ∷ []) (shown ++ row ∷ [])
shown_push [] [] kept row long is one = (one, tt)
shown_push [] (s ∷ ss) kept row long is one = absurd (omega (arith, long))
shown_push (k ∷ ks) [] kept row long is one = absurd is
shown_push (k ∷ ks) (s ∷ ss) kept row long is one = (is.0, shown_push ks ss kept row (omega (arith, long)) is.1 one)
