-- What is known of records that were read one after the other, each past all before it.
use Rattle.std.proofs.Common.{◌≡◌, Bool, true, false, cond, ◌&&◌, List, [], ◌∷◌, ◌++◌, refl, sym, ap, subst, ◌∙◌, Ordering, Less, Equal, Greater, is_eq, Option, Some, None, inl, inr}
use Rattle.std.specs.Cmp.Lexicographic.{slice_cmp}
use Rattle.std.specs.Ordering.{is_lt, nat_cmp, ordering_then}
use Rattle.std.specs.Prelude.{option_map}
use Rattle.std.proofs.lemmas.Bool.{and_from, and_parts, cases_Bool, false≢true}
use Rattle.std.proofs.lemmas.Cmp.{ranked, tied_itself}
use Rattle.desk_text.proofs.CodeLemmas.{same_code-Decides}
use Rattle.desk_edge.specs.Content.{Content, IsFirstPast, IsSame, is_past, key_cmp, key_of, same_key}
use Rattle.desk_edge.specs.declared.key.Key.{Key}
use Rattle.desk_edge.specs.declared.record.Record.{Record}
use Rattle.desk_edge.proofs.Keys.{key_order}
use Rattle.desk_rows.specs.Rows.{IsByKey, row_of}
use Rattle.desk_rows.proofs.Order.{AllAbove, by_key, first_above, none_by_key, rest_by_key}
use Rattle.desk_records.specs.Records.{content_in, is_past_all}

is_equal : (a : Ordering) → is_eq a ≡ true → a ≡ Equal
is_equal Less e = absurd (false≢true e)
is_equal Equal e = refl
is_equal Greater e = absurd (false≢true e)

is_less : (a : Ordering) → is_lt a ≡ true → a ≡ Less
is_less Less e = refl
is_less Equal e = absurd (false≢true e)
is_less Greater e = absurd (false≢true e)

-- keys that compare as equal are one
pub one_key : (a b : Key) → same_key a b ≡ true → a ≡ b
one_key a b e = by (nat_cmp a.kind b.kind) refl
  where
    then_codes : {c : Ordering} → c ≡ nat_cmp a.kind b.kind → is_eq (ordering_then c (slice_cmp nat_cmp a.code b.code)) ≡ true
    then_codes s = ap (λ o. is_eq (ordering_then o (slice_cmp nat_cmp a.code b.code))) s ∙ e

    by : (c : Ordering) → c ≡ nat_cmp a.kind b.kind → a ≡ b
    by Less s = absurd (false≢true (then_codes s))
    by Equal s =
        let kind : a.kind ≡ b.kind = ranked a.kind b.kind Equal s in
        let code : a.code ≡ b.code = (same_code-Decides a.code b.code).0 (then_codes s) in
        λ i. record { kind = kind i; code = code i }
    by Greater s = absurd (false≢true (then_codes s))

-- a key past a record that is past all others is past all others too
past_further : (records : List Record) (j k : Key) → is_past_all records j ≡ true → is_lt (key_cmp j k) ≡ true → is_past_all records k ≡ true
past_further [] j k past e = refl
past_further (kept ∷ records) j k past e =
    let parts = and_parts (is_lt (key_cmp (key_of kept) j)) (is_past_all records j) past in
    and_from (is_lt (key_cmp (key_of kept) k)) (is_past_all records k)
    (ap is_lt (key_order.trans (key_of kept) j k (is_less (key_cmp (key_of kept) j) parts.0) (is_less (key_cmp j k) e)))
    (past_further records j k parts.1 e)

past_append : (records : List Record) (kept : Record) (key : Key) → is_past_all (records ++ kept ∷ []) key ≡ (is_past_all records key && is_lt (key_cmp (key_of kept) key))
past_append [] kept key = elim (is_lt (key_cmp (key_of kept) key)) as (λ b. (b && true) ≡ b) [ true ↦ refl | false ↦ refl ]
past_append (first ∷ records) kept key =
    elim (is_lt (key_cmp (key_of first) key)) as (λ b. (b && is_past_all (records ++ kept ∷ []) key) ≡ ((b && is_past_all records key) && is_lt (key_cmp (key_of kept) key))) [
      | true ↦ past_append records kept key
      | false ↦ refl
    ]

-- a key is past a record that is past all others exactly where it is past all of them
pub past_last : (records : List Record) (kept : Record) (key : Key) → is_past_all records (key_of kept) ≡ true → is_lt (key_cmp (key_of kept) key) ≡ is_past_all (records ++ kept ∷ []) key
past_last records kept key past =
    elim (cases_Bool (is_lt (key_cmp (key_of kept) key))) [
      | inl e ↦ e ∙ sym (past_append records kept key ∙ and_from (is_past_all records key) (is_lt (key_cmp (key_of kept) key)) (past_further records (key_of kept) key past e) e)
      | inr e ↦ e ∙ sym (past_append records kept key ∙ ap (λ b. is_past_all records key && b) e ∙ none (is_past_all records key))
    ]
  where
    none : (b : Bool) → (b && false) ≡ false
    none true = refl
    none false = refl

above_append : (k : Key) (records : List Record) (kept : Record) → AllAbove key_of key_cmp key_order k records → key_cmp k (key_of kept) ≡ Less → AllAbove key_of key_cmp key_order k (records ++ kept ∷ [])
above_append k [] kept a e = (e, tt)
above_append k (first ∷ records) kept a e = (a.0, above_append k records kept a.1 e)

-- before anything was read there is no key that isn't past all records
pub nothing_before : (content : Content) (records : List Record) (key : Key) → records ≡ [] → is_past_all records key ≡ false → content key ≡ content_in records key
nothing_before content [] key none before = absurd (false≢true (sym before))
nothing_before content (kept ∷ records) key none before = cc

-- records in order stay so with one past all of them behind
pub by_key_append : (records : List Record) (kept : Record) → IsByKey key_of key_cmp records → is_past_all records (key_of kept) ≡ true → IsByKey key_of key_cmp (records ++ kept ∷ [])
by_key_append [] kept h past = by_key key_of key_cmp key_order kept [] tt (none_by_key key_of key_cmp key_order)
by_key_append (first ∷ records) kept h past =
    let parts = and_parts (is_lt (key_cmp (key_of first) (key_of kept))) (is_past_all records (key_of kept)) past in
    by_key key_of key_cmp key_order first (records ++ kept ∷ [])
    (above_append (key_of first) records kept (first_above key_of key_cmp key_order first records h) (is_less (key_cmp (key_of first) (key_of kept)) parts.0))
    (by_key_append records kept (rest_by_key key_of key_cmp key_order first records h) parts.1)

-- no record has a key past all of them
pub none_past : (records : List Record) (key : Key) → is_past_all records key ≡ true → row_of key_of key_cmp key records ≡ None
none_past [] key past = refl
none_past (kept ∷ records) key past =
    let parts = and_parts (is_lt (key_cmp (key_of kept) key)) (is_past_all records key) past in
    rw (is_less (key_cmp (key_of kept) key) parts.0) (none_past records key parts.1)

row_append : (records : List Record) (kept : Record) (key : Key) → row_of key_of key_cmp key records ≡ None → row_of key_of key_cmp key (records ++ kept ∷ []) ≡ cond (same_key (key_of kept) key) (Some kept) None
row_append [] kept key e = refl
row_append (first ∷ records) kept key e =
    elim (cases_Bool (same_key (key_of first) key)) [
      | inl same ↦ absurd (none_some first (sym e ∙ rw same refl))
      | inr other ↦ rw other (row_append records kept key (rw other at e))
    ]
  where
    none_some : (y : Record) → None ≡ Some y → ⊥
    none_some y h = cc

row_before : (records : List Record) (kept : Record) (key : Key) → same_key (key_of kept) key ≡ false → row_of key_of key_cmp key (records ++ kept ∷ []) ≡ row_of key_of key_cmp key records
row_before [] kept key other = rw other refl
row_before (first ∷ records) kept key other = ap (λ found. cond (same_key (key_of first) key) (Some first) found) (row_before records kept key other)

past_same : (records : List Record) (j k : Key) → is_past_all records j ≡ true → is_past_all records k ≡ false → same_key j k ≡ false
past_same records j k past not =
    elim (cases_Bool (same_key j k)) [
      | inl same ↦ absurd (false≢true (sym not ∙ subst (λ x. is_past_all records x ≡ true) (one_key j k same) past))
      | inr other ↦ other
    ]

-- what was found, where it is no record
pub none_where : (found : Option Record) → ((kept : Record) → found ≡ Some kept → ⊥) → found ≡ None
none_where None none = refl
none_where (Some kept) none = absurd (none kept refl)

-- with the first record past all that were read, the records are the first so far
pub read_on : (content : Content) (after : Option Key) (records : List Record) (kept : Record)
    → ((key : Key) → is_past after key ≡ is_past_all records key)
    → is_past after (key_of kept) ≡ true
    → IsFirstPast content after (Some kept)
    → ((key : Key) → is_past_all records key ≡ false → content key ≡ content_in records key)
    → (key : Key) → is_past_all (records ++ kept ∷ []) key ≡ false → content key ≡ content_in (records ++ kept ∷ []) key
read_on content after records kept agree later first so key not =
    elim (cases_Bool (is_past_all records key)) [
      | inr before ↦ so key before ∙ ap (option_map (λ r. r.body)) (sym (row_before records kept key (past_same records (key_of kept) key past before)))
      | inl behind ↦ by behind (key_cmp key (key_of kept)) refl
    ]
  where
    past : is_past_all records (key_of kept) ≡ true
    past = sym (agree (key_of kept)) ∙ later

    here : (behind : is_past_all records key ≡ true) → content_in (records ++ kept ∷ []) key ≡ option_map (λ r. r.body) (cond (same_key (key_of kept) key) (Some kept) None)
    here behind = ap (option_map (λ r. r.body)) (row_append records kept key (none_past records key behind))

    by : is_past_all records key ≡ true → (a : Ordering) → key_cmp key (key_of kept) ≡ a → content key ≡ content_in (records ++ kept ∷ []) key
    by behind Less e =
        first.0.1 key (agree key ∙ behind) (ap is_lt e)
        ∙ sym (here behind ∙ ap (λ o. option_map (λ r. r.body) (cond (is_eq o) (Some kept) None)) (key_order.antisymm (key_of kept) key ∙ ap flip e))
      where
        flip : Ordering → Ordering
        flip Less = Greater
        flip Equal = Equal
        flip Greater = Less
    by behind Equal e = subst (λ k. content k ≡ content_in (records ++ kept ∷ []) k) (sym (one_key key (key_of kept) (ap is_eq e))) (first.0.0 ∙ sym (at_kept (sym e)))
      where
        at_kept : Equal ≡ key_cmp key (key_of kept) → content_in (records ++ kept ∷ []) (key_of kept) ≡ Some kept.body
        at_kept s = ap (option_map (λ r. r.body)) (row_append records kept (key_of kept) (none_past records (key_of kept) past)) ∙ rw (tied_itself key_order (key_of kept)) refl
    by behind Greater e = absurd (false≢true (sym not ∙ past_append records kept key ∙ and_from (is_past_all records key) (is_lt (key_cmp (key_of kept) key)) behind (ap is_lt (greater_flip e))))
      where
        greater_flip : key_cmp key (key_of kept) ≡ Greater → key_cmp (key_of kept) key ≡ Less
        greater_flip g = key_order.antisymm (key_of kept) key ∙ ap turn g
          where
            turn : Ordering → Ordering
            turn Less = Greater
            turn Equal = Equal
            turn Greater = Less

-- where nothing is kept past all that were read, they are all
pub read_whole : (content : Content) (after : Option Key) (records : List Record)
    → ((key : Key) → is_past after key ≡ is_past_all records key)
    → IsFirstPast content after None
    → ((key : Key) → is_past_all records key ≡ false → content key ≡ content_in records key)
    → IsSame (content_in records) content
read_whole content after records agree none so key =
    elim (cases_Bool (is_past_all records key)) [
      | inr before ↦ so key before
      | inl behind ↦ none key (agree key ∙ behind) ∙ sym (ap (option_map (λ r. r.body)) (none_past records key behind))
    ]
