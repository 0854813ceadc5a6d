-- What is made of records one after the other, and why they aren't taken as sound tables.
use Rattle.std.specs.Prelude.{List}
use Rattle.desk_edge.specs.declared.record.Record.{Record}
use Rattle.desk_records.specs.Damage.{AreTablesOf, HasNoRowAt, HasOtherVersionAt, IsUnsoundAt}
use Rattle.desk_records.specs.declared.gather_fault.GatherFault.{GatherFault}
use Rattle.desk_records.specs.declared.gather_fault.GatherFault.TheVariants as fault
use Rattle.desk_records.specs.declared.gathered_records.GatheredRecords.{GatheredRecords}
use Rattle.desk_records.specs.declared.gathered_records.GatheredRecords.TheVariants.{Tables, OtherVersion, NoRow}

-- the tables of the rows that have the records, or the key of a record that no row has: of another version, or of theirs
unfoldable pub IsGatheredOf : List Record → GatheredRecords → Type 0
IsGatheredOf records (Tables tables) = AreTablesOf records tables
IsGatheredOf records (OtherVersion key) = HasOtherVersionAt records key.kind key.code
IsGatheredOf records (NoRow key) = HasNoRowAt records key.kind key.code

-- the fault tells a damage of the records by its key, unless memory was wanting
unfoldable pub NamesDamage : List Record → GatherFault → Type 0
NamesDamage records (fault.OtherVersion key) = HasOtherVersionAt records key.kind key.code
NamesDamage records (fault.NoRow key) = HasNoRowAt records key.kind key.code
NamesDamage records (fault.Unsound key) = IsUnsoundAt records key.kind key.code
NamesDamage records fault.OutOfMemory = Unit {0}
