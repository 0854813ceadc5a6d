-- What a store is opened as, from what was read of it.
use Rattle.std.proofs.Common.{◌≡◌, ℕ, ◌+◌, ◌==◌, Bool, true, false, List, [], ◌∷◌, length, refl, sym, ap, ◌∙◌, is_some, Some, None, inl, inr, arith}
use Rattle.std.proofs.lemmas.Bool.{cases_Bool, false≢true}
use Rattle.std.proofs.lemmas.Cmp.{tied_itself}
use Rattle.desk_edge.specs.Content.{Content, IsEmpty, IsSame, key_cmp, key_of}
use Rattle.desk_edge.specs.declared.key.Key.{Key}
use Rattle.desk_edge.specs.declared.record.Record.{Record}
use Rattle.desk_edge.proofs.Keys.{key_order}
use Rattle.desk_rows.specs.Rows.{IsByKey, row_of}
use Rattle.desk_model.specs.Lists.{Lists}
use Rattle.desk_history.specs.Sound.{Sound}
use Rattle.desk_records.specs.Damage.{AreOfNoTables, record_limit}
use Rattle.desk_records.specs.Records.{content_in, is_past_all, tables_content}
use Rattle.desk_records.proofs.Few.{few_of_sound}
use Rattle.desk_records.proofs.FirstRecords.{none_past}
use Rattle.desk_clerk.specs.Opening.{AreRead, IsOpenedAs}
use Rattle.desk_clerk.specs.Reading.{AreFirst}

none_some : {X : Type 0} {x : X} {G : Type 0} → None ≡ Some x → G
none_some e = cc

-- whether a list is empty, by its length
pub some_there : {X : Type 0} (records : List X) (n : ℕ) (b : Bool) → n ≡ length records → b ≡ (n == 0) → b ≡ false → records ≡ [] → ⊥
some_there records n b len is not e = absurd (false≢true (sym not ∙ is ∙ ap (λ m. m == 0) (len ∙ ap (λ r. length r) e)))

-- whether a record was read, by their number
pub some_read : (records : List Record) (n : ℕ) → n ≡ length records → (n ≡ 0 → ⊥) → records ≡ [] → ⊥
some_read records n len some e = some (len ∙ ap (λ r. length r) e)

pub none_read : (records : List Record) (n : ℕ) → n ≡ length records → n ≡ 0 → records ≡ []
none_read [] n len none = refl
none_read (kept ∷ records) n len none = absurd (omega (arith, len, none))

-- the records that were read are the store's own
pub is_read : (old new : Content) (records : List Record) → IsSame old new → AreFirst (record_limit + 1) new records → AreRead old records
is_read old new records stays first = record {
  kept = λ key found. sym (stays key) ∙ first.so_far key (not_past key found);
  all = λ few key. sym (stays key) ∙ first.all (omega (arith, few)) key;
}
  where
    not_past : (key : Key) → is_some (row_of key_of key_cmp key records) ≡ true → is_past_all records key ≡ false
    not_past key found =
        elim (cases_Bool (is_past_all records key)) [
          | inl past ↦ absurd (false≢true (sym (ap is_some (none_past records key past)) ∙ found))
          | inr before ↦ before
        ]

-- where nothing was read nothing is kept
pub empty_read : (content : Content) (records : List Record) → AreRead content records → records ≡ [] → IsEmpty content
empty_read content [] read e = λ key. read.all (omega arith) key
empty_read content (kept ∷ records) read e = cc

-- where a record was read the store isn't empty
not_empty : (content : Content) (records : List Record) → AreRead content records → (records ≡ [] → ⊥) → IsEmpty content → ⊥
not_empty content [] read some empty = some refl
not_empty content (kept ∷ records) read some empty =
    let found : content_in (kept ∷ records) (key_of kept) ≡ Some kept.body = rw (tied_itself key_order (key_of kept)) refl in
    none_some (sym (empty (key_of kept)) ∙ read.kept (key_of kept) (rw (tied_itself key_order (key_of kept)) refl) ∙ found)

-- sound tables that keep the records that were read keep what the store does
pub same_kept : (content : Content) (records : List Record) (t : Lists) → AreRead content records → IsByKey key_of key_cmp records → Sound t → IsSame (content_in records) (tables_content t) → IsSame (tables_content t) content
same_kept content records t read by_key sound same key = read.all (few_of_sound records t sound by_key (λ k found. same k)) key ∙ sym (same key)

-- so a store that isn't empty is opened as them
pub opened_as : (content : Content) (records : List Record) (t : Lists) → AreRead content records → (records ≡ [] → ⊥) → IsByKey key_of key_cmp records → Sound t → IsSame (content_in records) (tables_content t) → IsOpenedAs content t
opened_as content records t read some by_key sound same = inr (not_empty content records read some, same_kept content records t read by_key sound same)

-- and where no sound tables keep the records that were read, the store isn't one of sound tables
pub not_opened : (content : Content) (records : List Record) → AreRead content records → (records ≡ [] → ⊥) → IsByKey key_of key_cmp records
    → AreOfNoTables records → (t : Lists) → Sound t → IsOpenedAs content t → ⊥
not_opened content records read some by_key none t sound (inl start) = not_empty content records read some start.0
not_opened content records read some by_key none t sound (inr kept) =
    let few = few_of_sound records t sound by_key (λ k found. sym (kept.1 k) ∙ read.kept k found) in
    none t sound (λ k. sym (kept.1 k) ∙ read.all few k)
