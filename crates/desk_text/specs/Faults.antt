-- How the faults of texts are told.
use Rattle.std.specs.Prelude.{ℕ, List, ◌++◌, codes}
use Rattle.std.specs.Fmt.{decimal}
use Rattle.desk_text.specs.declared.cas.CasFault.{CasFault}
use Rattle.desk_text.specs.declared.cas.CasFault.TheVariants as cas
use Rattle.desk_text.specs.declared.code.CodeFault.{CodeFault}
use Rattle.desk_text.specs.declared.code.CodeFault.TheVariants as code
use Rattle.desk_text.specs.declared.day.DayFault.{DayFault}
use Rattle.desk_text.specs.declared.day.DayFault.TheVariants as day
use Rattle.desk_text.specs.declared.name.NameFault.{NameFault}
use Rattle.desk_text.specs.declared.name.NameFault.TheVariants as name
use Rattle.desk_text.specs.declared.number.NumberFault.{NumberFault}
use Rattle.desk_text.specs.declared.number.NumberFault.TheVariants as number

-- the words for want of memory
abbrev pub memory_words : List ℕ
memory_words = codes "out of memory"

-- the words for a fault of a code or of an exemption's number; a place is counted from 0
abbrev pub code_fault_words : CodeFault → List ℕ
code_fault_words code.Empty = codes "no byte"
code_fault_words code.TooLong = codes "too many bytes"
code_fault_words (code.BadByte at) = codes "a byte that may not stand there, at " ++ decimal at

-- the words for a fault of a name
abbrev pub name_fault_words : NameFault → List ℕ
name_fault_words name.Empty = codes "no byte"
name_fault_words name.TooLong = codes "more than 200 bytes"
name_fault_words name.BadText = codes "not UTF-8, or a control character"
name_fault_words name.OutOfMemory = memory_words

-- the words for a fault of a CAS registry number
abbrev pub cas_fault_words : CasFault → List ℕ
cas_fault_words cas.Shape = codes "not the form of a CAS number"
cas_fault_words cas.CheckDigit = codes "a wrong check digit"

-- the words for a fault of a day
abbrev pub day_fault_words : DayFault → List ℕ
day_fault_words day.Shape = codes "not a day as YYYY-MM-DD"
day_fault_words day.NoSuchDay = codes "no such day"
day_fault_words day.OutOfProfile = codes "a day before 2000-01-01 or after 2099-12-31"

-- the words for a fault of a number
abbrev pub number_fault_words : NumberFault → List ℕ
number_fault_words number.Shape = codes "not a number"
number_fault_words number.TooBig = codes "too big a number"
