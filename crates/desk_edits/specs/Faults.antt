-- How the faults of bytes that are no edit are told.
use Rattle.std.specs.Prelude.{ℕ, List, ◌++◌, codes}
use Rattle.desk_text.specs.Faults.{memory_words}
use Rattle.desk_edits.specs.declared.json_fault.JsonFault.{JsonFault}
use Rattle.desk_edits.specs.declared.json_fault.JsonFault.TheVariants as fault
use Rattle.desk_edits.specs.Keys.{key_name}

-- the words for a fault
abbrev pub json_fault_words : JsonFault → List ℕ
json_fault_words fault.NotJson = codes "not-json"
json_fault_words fault.NotAnEdit = codes "not-an-edit"
json_fault_words (fault.MissingKey key) = codes "missing-key " ++ key_name key
json_fault_words fault.ExtraKey = codes "extra-key"
json_fault_words (fault.BadValue key) = codes "bad-value " ++ key_name key
json_fault_words fault.OutOfMemory = memory_words
