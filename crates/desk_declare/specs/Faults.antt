-- The faults of bytes that are no declaration, and how they are told.
use Rattle.std.specs.Prelude.{ℕ, List, ◌++◌, codes, decimal}
use Rattle.desk_model.specs.declared.decl_error.DeclError.{DeclError}
use Rattle.desk_model.specs.declared.decl_error.DeclError.TheVariants as error
use Rattle.desk_text.specs.Faults.{memory_words}
use Rattle.desk_declare.specs.declared.declare_fault.DeclareFault.{DeclareFault}
use Rattle.desk_declare.specs.declared.declare_fault.DeclareFault.TheVariants as fault

-- the fault of a record whose row doesn't fit into the declaration so far; what a repeated row repeats is told by its own fault
abbrev pub unfit : DeclareFault → ℕ → DeclError → DeclareFault
unfit repeated place error.Repeated = repeated
unfit repeated place error.Orphan = fault.OrphanRow place
unfit repeated place error.TooMany = fault.TooManyRows place
unfit repeated place error.OutOfMemory = fault.OutOfMemory

-- a record by its number
abbrev pub record_words : ℕ → List ℕ
record_words place = codes " record " ++ decimal place

-- the words for a fault
unfoldable pub declare_fault_words : DeclareFault → List ℕ
declare_fault_words (fault.NotText place) = codes "not-text" ++ record_words place
declare_fault_words fault.NoHead = codes "no-head"
declare_fault_words (fault.BadField place column) = codes "bad-field" ++ record_words place ++ codes " column " ++ decimal column
declare_fault_words (fault.RepeatedMaterial place) = codes "repeated-material" ++ record_words place
declare_fault_words (fault.OrphanRow place) = codes "orphan-row" ++ record_words place
declare_fault_words (fault.RepeatedRow place) = codes "repeated-row" ++ record_words place
declare_fault_words (fault.TooManyRows place) = codes "too-many-rows" ++ record_words place
declare_fault_words fault.OutOfMemory = memory_words
