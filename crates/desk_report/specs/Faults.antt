-- How faults of a store become those of an export or an import.
use Rattle.desk_edge.specs.declared.keep_fault.KeepFault.{KeepFault}
use Rattle.desk_edge.specs.declared.keep_fault.KeepFault.TheVariants as keep_fault
use Rattle.desk_report.specs.declared.report_fault.ReportFault.{ReportFault}
use Rattle.desk_report.specs.declared.report_fault.ReportFault.TheVariants as report_fault

-- the fault of a call whose keeper wasn't able to do one
abbrev pub kept_as_report : KeepFault → ReportFault
kept_as_report keep_fault.Failed = report_fault.KeeperFault
kept_as_report keep_fault.OutOfMemory = report_fault.OutOfMemory
