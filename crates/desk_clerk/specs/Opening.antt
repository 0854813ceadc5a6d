-- What a store is opened as, and by which key a damaged one is told.
use Rattle.std.specs.Prelude.{◌≡◌, ◌⊎◌, ℕ, ◌+◌, ◌≤◌, true, List, length, is_some}
use Rattle.desk_edge.specs.Content.{Content, IsEmpty, IsSame, key_cmp, key_of}
use Rattle.desk_edge.specs.declared.key.Key.{Key}
use Rattle.desk_edge.specs.declared.record.Record.{Record}
use Rattle.desk_model.specs.Lists.{Lists}
use Rattle.desk_model.specs.Start.{start}
use Rattle.desk_records.specs.Damage.{IsDamage, record_limit}
use Rattle.desk_records.specs.Records.{content_in, tables_content}
use Rattle.desk_rows.specs.Rows.{IsByKey, row_of}

-- an empty store is opened as the start tables, and any other as the tables whose records it keeps
abbrev pub IsOpenedAs : Content → Lists → Type 0
IsOpenedAs content t = (IsEmpty content × (t ≡ start)) ⊎ ((IsEmpty content → ⊥) × IsSame (tables_content t) content)

-- the records are kept in the store: all that it keeps, or else one more than sound tables have
pub record AreRead (content : Content) (records : List Record) : Type 0 where
  pub kept : (key : Key) → is_some (row_of key_of key_cmp key records) ≡ true → content key ≡ content_in records key
  pub all : length records ≤ record_limit → IsSame (content_in records) content

-- records that were read, in order of their keys and no more than one too many for sound tables, have this damage. Where the store tells
-- what it keeps, they are its own
pub record IsDamagedAt (Tells : Type 0) (content : Content) (kind : ℕ) (code : List ℕ) : Type 0 where
  pub records : List Record
  pub by_key : IsByKey key_of key_cmp records
  pub within : length records ≤ record_limit + 1
  pub read : Tells → AreRead content records
  pub damage : IsDamage records kind code
