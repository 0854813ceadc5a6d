-- What a refusal of the library is told as, and which databases are refused.
use Rattle.std.specs.Prelude.{◌≡◌, []}
use Rattle.sqlite.specs.declared.error.Error.{Error}
use Rattle.sqlite.specs.declared.error.Error.TheVariants.{SqliteFailure}
use Rattle.sqlite.specs.declared.error.ErrorCode.TheVariants as code
use Rattle.sqlite_schema.specs.declared.schema.Schema.{Schema}
use Rattle.desk_edge.specs.declared.keep_fault.KeepFault.{KeepFault}
use Rattle.desk_edge.specs.declared.keep_fault.KeepFault.TheVariants as fault
use Rattle.desk_sqlite.specs.Store.{IsOurs}

-- the library's own want of memory is told as that, and each other refusal as a fault
abbrev pub keep_fault_of : Error → KeepFault
keep_fault_of (SqliteFailure code.OutOfMemory) = fault.OutOfMemory
keep_fault_of _ = fault.Failed

-- nothing was made in the database yet
abbrev pub IsNew : Schema → Type 0
IsNew schema = schema ≡ record { tables = []; indexes = []; views = [] }

-- the database is of somebody else: it is neither new nor a store
abbrev pub IsOfOthers : Schema → Type 0
IsOfOthers schema = (IsNew schema → ⊥) × (IsOurs schema → ⊥)
