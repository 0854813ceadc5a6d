-- How a fault of the command line is told.
use Rattle.std.specs.Prelude.{ℕ, List, codes}
use Rattle.desk_text.specs.Faults.{memory_words}
use Rattle.desk_words.specs.declared.command_fault.CommandFault.{CommandFault}
use Rattle.desk_words.specs.declared.command_fault.CommandFault.TheVariants.{NoCommand, OutOfMemory}

-- the words of a fault
abbrev pub command_fault_words : CommandFault → List ℕ
command_fault_words NoCommand = codes "not a command line"
command_fault_words OutOfMemory = memory_words
