-- When a connection stands over the table of a store.
use Rattle.std.specs.Prelude.{◌≡◌, ℕ, true, Bool, ◌&&◌, List, None, if◌then◌else◌, IsTrue}
use Rattle.std.specs.Cmp.Lexicographic.{slice_cmp}
use Rattle.std.specs.Ordering.{nat_cmp, is_eq, is_gt}
use Rattle.sqlite_value.specs.Order.{Row}
use Rattle.sqlite_sql.specs.Term.{Term}
use Rattle.sqlite_schema.specs.declared.schema.Schema.{Schema}
use Rattle.sqlite.specs.State.{State, HasCleanDisk}
use Rattle.desk_sqlite.specs.Rows.{body_kept, same_kind_and_code, AreRowsNumbered}
use Rattle.desk_sqlite.specs.Table.{store_schema}

-- the schema is the table of a store and the index of its keys, and nothing else
abbrev pub IsOurs : Schema → Type 0
IsOurs schema = (checks : List Term) × (name : List ℕ) × (schema ≡ store_schema checks name)

-- the rows of the table
abbrev pub rows_in : State → List Row
rows_in s = s.now.trees 0

-- the database is one such table, whose rows have numbers of their own
pub record IsStore (s : State) : Type 0 where
  pub ours : IsOurs s.now.schema
  pub numbered : AreRowsNumbered (rows_in s)

-- where the disk is clean and the connection open, the database is a store
abbrev pub Suits : State → Type 0
Suits s = HasCleanDisk s → IsTrue s.is_open → IsStore s

-- a keeper tells what the rows keep: it found the database to be a store, the disk is clean and the connection open
abbrev pub TellsContent : Bool → State → Type 0
TellsContent is_ours s = (is_ours ≡ true) × HasCleanDisk s × IsTrue s.is_open

-- nothing is kept for the kind and the code, and for each other as before
abbrev pub Dropped : ℕ → List ℕ → List Row → List Row → Type 0
Dropped kind code old new = (k : ℕ) (c : List ℕ) → body_kept new k c ≡ (if same_kind_and_code kind code k c then None else body_kept old k c)

-- as far as the disk is clean and the connection open, they were before, and nothing is changed
pub record IsStill (old new : State) : Type 0 where
  pub clean : HasCleanDisk new → HasCleanDisk old
  pub was_open : HasCleanDisk new → IsTrue new.is_open → IsTrue old.is_open
  pub same : Suits old → HasCleanDisk new → IsTrue new.is_open → new.now ≡ old.now

-- where the database was a store before, and the disk is clean and the connection open now, it has the rows that it had
abbrev pub KeepsRows : State → State → Type 0
KeepsRows old new = IsOurs old.now.schema → HasCleanDisk new → IsTrue new.is_open → rows_in new ≡ rows_in old

-- each key is looked for
abbrev pub any_key : ℕ → List ℕ → Bool
any_key k c = true

-- the key is of the kind and past the code
abbrev pub is_within : ℕ → List ℕ → ℕ → List ℕ → Bool
is_within kind code k c = is_eq (nat_cmp k kind) && is_gt (slice_cmp nat_cmp c code)

-- the key is past the kind
abbrev pub is_beyond : ℕ → ℕ → List ℕ → Bool
is_beyond kind k c = is_gt (nat_cmp k kind)
