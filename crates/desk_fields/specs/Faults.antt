-- How it is told that a text isn't read.
use Rattle.std.specs.Prelude.{ℕ, List, codes}
use Rattle.desk_text.specs.Faults.{memory_words}
use Rattle.desk_fields.specs.declared.field_fault.FieldFault.{FieldFault}
use Rattle.desk_fields.specs.declared.field_fault.FieldFault.TheVariants as field
use Rattle.desk_fields.specs.declared.row_fault.RowFault.{RowFault}
use Rattle.desk_fields.specs.declared.row_fault.RowFault.TheVariants as row
use Rattle.desk_fields.specs.declared.text_fault.TextFault.{TextFault}
use Rattle.desk_fields.specs.declared.text_fault.TextFault.TheVariants as text

-- the words for a fault of an edit's text
abbrev pub text_fault_words : TextFault → List ℕ
text_fault_words text.NotAnEdit = codes "not the text of an edit"
text_fault_words text.OutOfMemory = memory_words

-- the fault of an edit's text whose fields have a fault
abbrev pub text_fault_of : FieldFault → TextFault
text_fault_of field.Shape = text.NotAnEdit
text_fault_of field.OutOfMemory = text.OutOfMemory

-- the words for a fault of a row's text
abbrev pub row_fault_words : RowFault → List ℕ
row_fault_words row.Version = codes "another version"
row_fault_words row.Shape = codes "not the text of a row"
row_fault_words row.OutOfMemory = memory_words

-- the fault of a row's text whose fields have a fault
abbrev pub row_fault_of : FieldFault → RowFault
row_fault_of field.Shape = row.Shape
row_fault_of field.OutOfMemory = row.OutOfMemory
