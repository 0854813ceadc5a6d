-- Records that were read before they are asked for.
use Rattle.std.specs.Prelude.{List, Option, Some, IfSome, IsTrue}
use Rattle.sqlite.specs.State.{State, HasCleanDisk}
use Rattle.desk_edge.specs.Content.{Content}
use Rattle.desk_edge.specs.declared.key.Key.{Key}
use Rattle.desk_edge.specs.declared.record.Record.{Record}
use Rattle.desk_sqlite.specs.Content.{AreNextPast, rows_content}
use Rattle.desk_sqlite.specs.Store.{rows_in}

-- records that were read ahead, and the key behind which they come
pub record ReadAhead : Type 0 where
  pub last : Key
  pub records : List Record

-- what was read ahead comes next past its key
abbrev pub IsReadAhead : Content → ReadAhead → Type 0
IsReadAhead content ahead = AreNextPast content (Some ahead.last) ahead.records

-- where the disk is clean and the connection open, what was read ahead, if anything was, is what the rows keep
abbrev pub IsAhead : State → Option ReadAhead → Type 0
IsAhead s ahead = HasCleanDisk s → IsTrue s.is_open → IfSome ahead (IsReadAhead (rows_content (rows_in s)))
