-- How the fault of tables that aren't taken as sound becomes that of their records.
use Rattle.desk_records.specs.declared.gather_fault.GatherFault.{GatherFault}
use Rattle.desk_records.specs.declared.gather_fault.GatherFault.TheVariants as gather_fault
use Rattle.desk_tables.specs.declared.sound_fault.SoundFault.{SoundFault}
use Rattle.desk_tables.specs.declared.sound_fault.SoundFault.TheVariants as sound_fault

-- the fault of records whose tables aren't taken as sound
abbrev pub sound_as_gather : SoundFault → GatherFault
sound_as_gather (sound_fault.Unsound table key) = gather_fault.Unsound (record { kind = table; code = key })
sound_as_gather sound_fault.OutOfMemory = gather_fault.OutOfMemory
