-- What a store keeps: a body under each key, or none.
use Rattle.std.specs.Prelude.{◌≡◌, ℕ, ◌≤◌, Bool, true, List, [], ◌∷◌, Option, Some, None, count_by, if◌then◌else◌}
use Rattle.std.specs.Cmp.Lexicographic.{slice_cmp}
use Rattle.std.specs.Ordering.{nat_cmp, on, then_cmp, is_eq, is_lt}
use Rattle.std.specs.declared.cmp.Ordering.{Ordering}
use Rattle.desk_edge.specs.declared.change.Change.{Change}
use Rattle.desk_edge.specs.declared.change.Change.TheVariants.{Put, Drop}
use Rattle.desk_edge.specs.declared.key.Key.{Key}
use Rattle.desk_edge.specs.declared.record.Record.{Record}

-- keys are ordered by kind, and then by the bytes of the code
abbrev pub key_cmp : Key → Key → Ordering
key_cmp = then_cmp (on (λ key. key.kind) nat_cmp) (on (λ key. key.code) (slice_cmp nat_cmp))

-- the key under which a record is kept
abbrev pub key_of : Record → Key
key_of kept = record { kind = kept.kind; code = kept.code }

-- the two are one key
abbrev pub same_key : Key → Key → Bool
same_key a b = is_eq (key_cmp a b)

-- no two of the records have one key
abbrev pub HaveDistinctKeys : List Record → Type 0
HaveDistinctKeys records = (key : Key) → count_by (λ kept. same_key (key_of kept) key) records ≤ 1

-- of each key the body that is kept under it
abbrev pub Content : Type 0
Content = Key → Option (List ℕ)

-- the same is kept under each key
abbrev pub IsSame : Content → Content → Type 0
IsSame old new = (key : Key) → new key ≡ old key

-- nothing is kept under any key
abbrev pub IsEmpty : Content → Type 0
IsEmpty content = (key : Key) → content key ≡ None

-- what is kept under the key after a change
abbrev pub body_after : Change → Key → Option (List ℕ) → Option (List ℕ)
body_after (Put kept) key body = if same_key (key_of kept) key then Some kept.body else body
body_after (Drop dropped) key body = if same_key dropped key then None else body

-- what is kept under the key after all these changes, one after the other
abbrev pub body_after_all : List Change → Key → Option (List ℕ) → Option (List ℕ)
body_after_all [] key body = body
body_after_all (change ∷ changes) key body = body_after_all changes key (body_after change key body)

-- the changes were made, one after the other, and nothing else changed
abbrev pub IsChanged : List Change → Content → Content → Type 0
IsChanged changes old new = (key : Key) → new key ≡ body_after_all changes key (old key)

-- the key comes after the one that was given, or none was given
abbrev pub is_past : Option Key → Key → Bool
is_past None key = true
is_past (Some after) key = is_lt (key_cmp after key)

-- the record is kept, and nothing is kept that lies past the key and before the record
abbrev pub IsFirstOf : Content → Option Key → Record → Type 0
IsFirstOf content after kept =
    (content (key_of kept) ≡ Some kept.body)
    × ((key : Key) → is_past after key ≡ true → is_lt (key_cmp key (key_of kept)) ≡ true → content key ≡ None)

-- the record lies past the key, and is the first that is kept there; where there is none, nothing is kept past it
abbrev pub IsFirstPast : Content → Option Key → Option Record → Type 0
IsFirstPast content after None = (key : Key) → is_past after key ≡ true → content key ≡ None
IsFirstPast content after (Some kept) = IsFirstOf content after kept × (is_past after (key_of kept) ≡ true)
