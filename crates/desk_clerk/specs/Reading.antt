-- The beginning of what a store keeps.
use Rattle.std.specs.Prelude.{◌≡◌, ℕ, ◌<◌, ◌≤◌, false, List, length}
use Rattle.desk_edge.specs.Content.{Content, IsSame, key_cmp, key_of}
use Rattle.desk_edge.specs.declared.key.Key.{Key}
use Rattle.desk_edge.specs.declared.record.Record.{Record}
use Rattle.desk_records.specs.Records.{content_in, is_past_all}
use Rattle.desk_rows.specs.Rows.{IsByKey}

-- the records are the first that the store keeps: all, where they are less than this many
pub record AreFirst (most : ℕ) (content : Content) (records : List Record) : Type 0 where
  pub so_far : (key : Key) → is_past_all records key ≡ false → content key ≡ content_in records key
  pub all : length records < most → IsSame (content_in records) content

-- the records were read of a store: they stand in the order of their keys, are at most this many, and are the first that the store
-- keeps, where it tells what that is
pub record WereRead (most : ℕ) (Tells : Type 0) (content : Content) (records : List Record) : Type 0 where
  pub by_key : IsByKey key_of key_cmp records
  pub within : length records ≤ most
  pub first : Tells → AreFirst most content records
