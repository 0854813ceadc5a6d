-- A record behind others in order: its key is past theirs exactly where it is past the last one's.
use Rattle.std.proofs.Common.{◌≡◌, true, false, List, [], ◌∷◌, ◌++◌, length, refl, sym, ap, ◌∙◌, subst, arith}
use Rattle.std.specs.Ordering.{is_lt}
use Rattle.std.proofs.lemmas.Bool.{and_from, false≢true}
use Rattle.desk_edge.specs.Content.{key_cmp, key_of}
use Rattle.desk_edge.specs.declared.key.Key.{Key}
use Rattle.desk_edge.specs.declared.record.Record.{Record}
use Rattle.desk_edge.proofs.Keys.{key_order}
use Rattle.desk_rows.specs.Rows.{IsByKey}
use Rattle.desk_rows.proofs.Order.{AllAbove, by_key, first_above, none_by_key, rest_by_key}
use Rattle.desk_records.specs.Records.{is_past_all}
use Rattle.desk_records.proofs.FirstRecords.{by_key_append, past_last}

last_above : (k : Key) (records : List Record) (kept : Record) → AllAbove key_of key_cmp key_order k (records ++ kept ∷ []) → is_lt (key_cmp k (key_of kept)) ≡ true
last_above k [] kept above = ap is_lt above.0
last_above k (first ∷ records) kept above = last_above k records kept above.1

-- the last of records in order is past all others
pub past_before : (records : List Record) (kept : Record) → IsByKey key_of key_cmp (records ++ kept ∷ []) → is_past_all records (key_of kept) ≡ true
past_before [] kept h = refl
past_before (first ∷ records) kept h =
    and_from (is_lt (key_cmp (key_of first) (key_of kept))) (is_past_all records (key_of kept))
    (last_above (key_of first) records kept (first_above key_of key_cmp key_order first (records ++ kept ∷ []) h))
    (past_before records kept (rest_by_key key_of key_cmp key_order first (records ++ kept ∷ []) h))

-- whether a record is past all is whether it is past the last
past_the_last : (all records : List Record) (last kept : Record) → all ≡ records ++ last ∷ [] → IsByKey key_of key_cmp all
    → is_past_all all (key_of kept) ≡ is_lt (key_cmp (key_of last) (key_of kept))
past_the_last all records last kept e h =
    let parts = subst (IsByKey key_of key_cmp) e h in
    ap (λ l. is_past_all l (key_of kept)) e ∙ sym (past_last records last (key_of kept) (past_before records last parts))

pub follows_last : (all records : List Record) (last kept : Record) → all ≡ records ++ last ∷ [] → IsByKey key_of key_cmp all
    → is_lt (key_cmp (key_of last) (key_of kept)) ≡ true → IsByKey key_of key_cmp (all ++ kept ∷ [])
follows_last all records last kept e h less = by_key_append all kept h (past_the_last all records last kept e h ∙ less)

pub not_follows : (all records : List Record) (last kept : Record) → all ≡ records ++ last ∷ [] → IsByKey key_of key_cmp all
    → is_lt (key_cmp (key_of last) (key_of kept)) ≡ false → IsByKey key_of key_cmp (all ++ kept ∷ []) → ⊥
not_follows all records last kept e h not more = false≢true (sym not ∙ sym (past_the_last all records last kept e h) ∙ past_before all kept more)

-- behind no others any record is in order
pub first_follows : (all : List Record) (kept : Record) → length all ≡ 0 → IsByKey key_of key_cmp (all ++ kept ∷ [])
first_follows [] kept none = by_key key_of key_cmp key_order kept [] tt (none_by_key key_of key_cmp key_order)
first_follows (first ∷ all) kept none = absurd (omega (arith, none))
