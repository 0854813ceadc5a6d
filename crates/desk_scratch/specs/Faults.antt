-- How it is told that a question has no answer.
use Rattle.std.specs.Prelude.{ℕ, List, ◌++◌, codes}
use Rattle.desk_text.specs.Faults.{memory_words}
use Rattle.desk_scratch.specs.declared.ask_fault.AskFault.{AskFault}
use Rattle.desk_scratch.specs.declared.ask_fault.AskFault.TheVariants as fault

-- the words of a fault
abbrev pub ask_fault_words : AskFault → List ℕ
ask_fault_words (fault.NoSuchCode code) = codes "no-such-code " ++ code
ask_fault_words (fault.NotAProduct code) = codes "not-a-product " ++ code
ask_fault_words fault.OutOfMemory = memory_words
