-- How the faults of an edit are told.
use Rattle.std.specs.Prelude.{ℕ, List}
use Rattle.desk_text.specs.Faults.{memory_words}
use Rattle.desk_model.specs.Refusals.{refusal_words}
use Rattle.desk_tables.specs.declared.edit_fault.EditFault.{EditFault}
use Rattle.desk_tables.specs.declared.edit_fault.EditFault.TheVariants as fault

-- the words for a fault: those of the refusal, or those for want of memory
abbrev pub edit_fault_words : EditFault → List ℕ
edit_fault_words (fault.Rule refusal) = refusal_words refusal
edit_fault_words fault.OutOfMemory = memory_words
