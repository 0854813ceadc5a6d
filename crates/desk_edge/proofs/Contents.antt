-- What a list of records by key keeps: what a change makes of it, and which record comes first past a key.
use Rattle.std.proofs.Common.{◌≡◌, Bool, true, false, cond, List, [], ◌∷◌, refl, ap, sym, ◌∙◌, Ordering, Less, Equal, Greater, subst, is_eq, Option, Some, None, inl, inr}
use Rattle.std.specs.List.{find}
use Rattle.std.specs.Ordering.{is_lt}
use Rattle.std.specs.Prelude.{IfSome, option_map}
use Rattle.std.proofs.lemmas.Bool.{cases_Bool, false≢true}
use Rattle.std.proofs.lemmas.Cmp.{alike_right, tied_itself}
use Rattle.desk_edge.specs.Content.{Content, IsChanged, IsFirstPast, body_after, body_after_all, is_past, key_cmp, key_of, same_key}
use Rattle.desk_edge.specs.Stores.{KeeperInMemory, keeper_after_call, keeper_after_fault, records_with, records_with_all}
use Rattle.desk_edge.specs.declared.change.Change.{Change}
use Rattle.desk_edge.specs.declared.change.Change.TheVariants.{Put, Drop}
use Rattle.desk_edge.specs.declared.key.Key.{Key}
use Rattle.desk_edge.specs.declared.record.Record.{Record}
use Rattle.desk_edge.proofs.Keys.{key_order}
use Rattle.desk_rows.specs.Rows.{IsByKey, row_of, with_row, without_row}
use Rattle.desk_rows.proofs.Edits.{IsByKey-with_row, IsByKey-without_row}
use Rattle.desk_rows.proofs.Lookups.{row_of-with_row, row_of-with_row_other, row_of-without_row_other}
use Rattle.desk_rows.proofs.Order.{AllAbove, AllAbove-down, first_above, rest_by_key, row_of-above}

is_equal : (a : Ordering) → is_eq a ≡ true → a ≡ Equal
is_equal Less h = absurd (false≢true h)
is_equal Equal h = refl
is_equal Greater h = absurd (false≢true h)

-- what is kept under a key among the records
body_at : List Record → Content
body_at records key = option_map (λ kept. kept.body) (row_of key_of key_cmp key records)

row_of-same : (j k : Key) (records : List Record) → key_cmp j k ≡ Equal → row_of key_of key_cmp j records ≡ row_of key_of key_cmp k records
row_of-same j k [] e = refl
row_of-same j k (kept ∷ records) e = rw (alike_right key_order j k (key_of kept) e, row_of-same j k records e) refl

above_same : (j k : Key) (records : List Record) → key_cmp j k ≡ Equal → AllAbove key_of key_cmp key_order j records → AllAbove key_of key_cmp key_order k records
above_same j k [] e above = tt
above_same j k (kept ∷ records) e above = (sym (key_order.congr j k (key_of kept) e) ∙ above.0, above_same j k records e above.1)

-- the key that was taken out is gone
gone_at : (key : Key) (kept : Record) (records : List Record) (b : Bool) → same_key (key_of kept) key ≡ b → IsByKey key_of key_cmp (kept ∷ records)
    → row_of key_of key_cmp key (without_row key_of key_cmp key records) ≡ None → row_of key_of key_cmp key (without_row key_of key_cmp key (kept ∷ records)) ≡ None
gone_at key kept records true e h ih =
    rw e (row_of-above key_of key_cmp key_order key records (above_same (key_of kept) key records (is_equal (key_cmp (key_of kept) key) e) (first_above key_of key_cmp key_order kept records h)))
gone_at key kept records false e h ih = rw (e, e) ih

gone : (key : Key) (records : List Record) → IsByKey key_of key_cmp records → row_of key_of key_cmp key (without_row key_of key_cmp key records) ≡ None
gone key [] h = refl
gone key (kept ∷ records) h = gone_at key kept records (same_key (key_of kept) key) refl h (gone key records (rest_by_key key_of key_cmp key_order kept records h))

change_at : (change : Change) (records : List Record) (key : Key) → IsByKey key_of key_cmp records → body_at (records_with change records) key ≡ body_after change key (body_at records key)
unfolding body_at
change_at (Put new) records key h =
    elim (cases_Bool (same_key (key_of new) key)) [
      | inl same ↦ rw same (ap (option_map (λ kept. kept.body)) (sym (row_of-same (key_of new) key (with_row key_of key_cmp new records) (is_equal (key_cmp (key_of new) key) same)) ∙ row_of-with_row key_of key_cmp key_order new records))
      | inr other ↦ rw other (ap (option_map (λ kept. kept.body)) (row_of-with_row_other key_of key_cmp key_order new key records other))
    ]
change_at (Drop dropped) records key h =
    elim (cases_Bool (same_key dropped key)) [
      | inl same ↦ rw same (ap (option_map (λ kept. kept.body)) (sym (row_of-same dropped key (without_row key_of key_cmp dropped records) (is_equal (key_cmp dropped key) same)) ∙ gone dropped records h))
      | inr other ↦ rw other (ap (option_map (λ kept. kept.body)) (row_of-without_row_other key_of key_cmp key_order dropped key records other))
    ]

by_key_with : (change : Change) (records : List Record) → IsByKey key_of key_cmp records → IsByKey key_of key_cmp (records_with change records)
by_key_with (Put new) records h = IsByKey-with_row key_of key_cmp key_order new records h
by_key_with (Drop key) records h = IsByKey-without_row key_of key_cmp key_order key records h

-- all changes of the records are changes of what is kept under each key
changes_at : (changes : List Change) (records : List Record) (key : Key) → IsByKey key_of key_cmp records → body_at (records_with_all changes records) key ≡ body_after_all changes key (body_at records key)
changes_at [] records key h = refl
changes_at (change ∷ changes) records key h =
    changes_at changes (records_with change records) key (by_key_with change records h) ∙ ap (body_after_all changes key) (change_at change records key h)

pub are_changed : (changes : List Change) (records : List Record) → IsByKey key_of key_cmp records
    → IsChanged changes (λ key. option_map (λ kept. kept.body) (row_of key_of key_cmp key records)) (λ key. option_map (λ kept. kept.body) (row_of key_of key_cmp key (records_with_all changes records)))
unfolding body_at
are_changed changes records h key = changes_at changes records key h

-- a record that is found comes past the key
pub past_where_found : (after : Option Key) (records : List Record) (found : Option Record) → find (λ kept. is_past after (key_of kept)) records ≡ found → IfSome found (λ kept. is_past after (key_of kept) ≡ true)
past_where_found after records None e = tt
past_where_found after [] (Some kept) e = absurd (none_some kept e)
  where
    none_some : (x : Record) → None ≡ Some x → ⊥
    none_some x h = cc
past_where_found after (first ∷ records) (Some kept) e =
    elim (cases_Bool (is_past after (key_of first))) [
      | inl past ↦ at past (rw past at e)
      | inr before ↦ past_where_found after records (Some kept) (rw before at e)
    ]
  where
    at : is_past after (key_of first) ≡ true → Some first ≡ Some kept → is_past after (key_of kept) ≡ true
    at past same = subst (λ r. is_past after (key_of r) ≡ true) (inside first kept same) past
      where
        inside : (x y : Record) → Some x ≡ Some y → x ≡ y
        inside x y h = cc

past_same : (after : Option Key) (j k : Key) → key_cmp j k ≡ Equal → is_past after j ≡ is_past after k
past_same None j k e = refl
past_same (Some after) j k e = ap is_lt (alike_right key_order j k after e)

-- a key past the one that was given isn't that of a record which isn't past it
other_at : (after : Option Key) (kept : Record) (key : Key) → is_past after (key_of kept) ≡ false → is_past after key ≡ true → same_key (key_of kept) key ≡ false
other_at after kept key before past =
    elim (cases_Bool (same_key (key_of kept) key)) [
      | inl same ↦ absurd (false≢true (sym before ∙ past_same after (key_of kept) key (is_equal (key_cmp (key_of kept) key) same) ∙ past))
      | inr other ↦ other
    ]

first_at : (after : Option Key) (kept : Record) (records : List Record) (b : Bool) → is_past after (key_of kept) ≡ b → IsByKey key_of key_cmp (kept ∷ records)
    → IsFirstPast (body_at records) after (find (λ r. is_past after (key_of r)) records) → IsFirstPast (body_at (kept ∷ records)) after (find (λ r. is_past after (key_of r)) (kept ∷ records))
unfolding body_at
first_at after kept records true past h ih =
    rw past (
      (
        rw (tied_itself key_order (key_of kept)) refl,
        λ key e less.
            ap (option_map (λ r. r.body)) (row_of-above key_of key_cmp key_order key (kept ∷ records) (is_less (key_cmp key (key_of kept)) less, AllAbove-down key_of key_cmp key_order key (key_of kept) records (is_less (key_cmp key (key_of kept)) less) (first_above key_of key_cmp key_order kept records h))),
      ),
      past,
    )
  where
    is_less : (a : Ordering) → is_lt a ≡ true → a ≡ Less
    is_less Less e = refl
    is_less Equal e = absurd (false≢true e)
    is_less Greater e = absurd (false≢true e)
first_at after kept records false before h ih = rw before (lifted (find (λ r. is_past after (key_of r)) records) refl ih)
  where
    same_at : (key : Key) → is_past after key ≡ true → body_at (kept ∷ records) key ≡ body_at records key
    same_at key past = rw (other_at after kept key before past) refl

    lifted : (found : Option Record) → find (λ r. is_past after (key_of r)) records ≡ found → IsFirstPast (body_at records) after found → IsFirstPast (body_at (kept ∷ records)) after found
    lifted None e rest = λ key past. same_at key past ∙ rest key past
    lifted (Some next) e rest = ((same_at (key_of next) (past_where_found after records (Some next) e) ∙ rest.0.0, λ key past less. same_at key past ∙ rest.0.1 key past less), rest.1)

first_of : (after : Option Key) (records : List Record) → IsByKey key_of key_cmp records → IsFirstPast (body_at records) after (find (λ kept. is_past after (key_of kept)) records)
unfolding body_at
first_of after [] h = λ key past. refl
first_of after (kept ∷ records) h = first_at after kept records (is_past after (key_of kept)) refl h (first_of after records (rest_by_key key_of key_cmp key_order kept records h))

-- the record that is found is the first past the key
pub is_first : (after : Option Key) (records : List Record) (found : Option Record) → IsByKey key_of key_cmp records → found ≡ find (λ kept. is_past after (key_of kept)) records
    → IsFirstPast (λ key. option_map (λ kept. kept.body) (row_of key_of key_cmp key records)) after found
unfolding body_at
is_first after records found h e = subst (IsFirstPast (body_at records) after) (sym e) (first_of after records h)

-- a call that is counted leaves the records
pub records_stay : (fails : Bool) (old new : KeeperInMemory) → new ≡ cond fails (keeper_after_fault old) (keeper_after_call old) → new.records ≡ old.records
records_stay true old new e = ap (λ kept. kept.records) e
records_stay false old new e = ap (λ kept. kept.records) e
