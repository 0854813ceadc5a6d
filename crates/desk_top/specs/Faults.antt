-- What the faults of the layers below mean for `check`.
use Rattle.desk_edge.specs.declared.transfer.ReadFault.{ReadFault}
use Rattle.desk_edge.specs.declared.transfer.ReadFault.TheVariants as read
use Rattle.desk_declare.specs.declared.declare_fault.DeclareFault.{DeclareFault}
use Rattle.desk_declare.specs.declared.declare_fault.DeclareFault.TheVariants as declare
use Rattle.desk_top.specs.declared.check.CheckFault.{CheckFault}
use Rattle.desk_top.specs.declared.check.CheckFault.TheVariants.{Refused, Failed, OutOfMemory}
use Rattle.desk_top.specs.declared.refusal.Refusal.TheVariants.{BadDeclaration}

-- a fault of reading the console, as `check` tells it
abbrev pub from_read_fault : ReadFault → CheckFault
from_read_fault read.Failed = Failed
from_read_fault read.OutOfMemory = OutOfMemory

-- bytes that are no declaration are refused, and want of memory stays what it is
abbrev pub from_declare_fault : DeclareFault → CheckFault
from_declare_fault declare.OutOfMemory = OutOfMemory
from_declare_fault fault = Refused (BadDeclaration fault)
