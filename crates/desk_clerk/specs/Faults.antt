-- How faults of what a clerk stands on become its own.
use Rattle.std.specs.Prelude.{ℕ}
use Rattle.desk_clerk.specs.declared.open_fault.OpenFault.{OpenFault}
use Rattle.desk_clerk.specs.declared.open_fault.OpenFault.TheVariants as open_fault
use Rattle.desk_clerk.specs.declared.submit_fault.SubmitFault.{SubmitFault}
use Rattle.desk_clerk.specs.declared.submit_fault.SubmitFault.TheVariants as submit_fault
use Rattle.desk_edge.specs.declared.keep_fault.KeepFault.{KeepFault}
use Rattle.desk_edge.specs.declared.keep_fault.KeepFault.TheVariants as keep_fault
use Rattle.desk_records.specs.declared.gather_fault.GatherFault.{GatherFault}
use Rattle.desk_records.specs.declared.gather_fault.GatherFault.TheVariants as gather_fault
use Rattle.desk_tables.specs.declared.edit_fault.EditFault.{EditFault}
use Rattle.desk_tables.specs.declared.edit_fault.EditFault.TheVariants as edit_fault

-- the fault of an opening whose keeper wasn't able to do a call
abbrev pub kept_as_open : KeepFault → OpenFault
kept_as_open keep_fault.Failed = open_fault.KeeperFault
kept_as_open keep_fault.OutOfMemory = open_fault.OutOfMemory

-- the fault of an opening whose records aren't taken as those of sound tables: by whatever cause, the key alone is told
abbrev pub gathered_as_open : GatherFault → OpenFault
gathered_as_open (gather_fault.OtherVersion key) = open_fault.Damaged key.kind key.code
gathered_as_open (gather_fault.NoRow key) = open_fault.Damaged key.kind key.code
gathered_as_open (gather_fault.Unsound key) = open_fault.Damaged key.kind key.code
gathered_as_open gather_fault.OutOfMemory = open_fault.OutOfMemory

-- the fault of an edit whose keeper wasn't able to do a call
abbrev pub kept_as_submit : KeepFault → SubmitFault
kept_as_submit keep_fault.Failed = submit_fault.KeeperFault
kept_as_submit keep_fault.OutOfMemory = submit_fault.OutOfMemory

-- the fault of an edit that the tables refuse, with the number of the tables
abbrev pub edit_as_submit : EditFault → ℕ → SubmitFault
edit_as_submit (edit_fault.Rule fault) number = submit_fault.Rule fault number
edit_as_submit edit_fault.OutOfMemory number = submit_fault.OutOfMemory
