-- What the program answers: how it ends, and all that it writes.
use Rattle.std.specs.Prelude.{◌≡◌, ℕ, ◌⊎◌, if◌then◌else◌, ◌==◌, List, [], ◌++◌, codes, decimal, Option, None, Some, Result, Ok, Err}
use Rattle.std.specs.Io.KnownBytes.{Appends, Keeps}
use Rattle.desk_edge.specs.Transfer.{AppendsBeginning, AppendsPart}
use Rattle.desk_text.specs.Day.{Date}
use Rattle.desk_declare.specs.Faults.{declare_fault_words}
use Rattle.desk_model.specs.Lists.{Lists}
use Rattle.desk_model.specs.Refusals.{refusal_words}
use Rattle.desk_scratch.specs.Summary.{summary_text}
use Rattle.desk_clerk.specs.declared.open_fault.OpenFault.{OpenFault}
use Rattle.desk_clerk.specs.declared.open_fault.OpenFault.TheVariants as opening
use Rattle.desk_top.specs.Check.{check_outcome}
use Rattle.desk_law.specs.declared.kind_on_day.KindOnDay.{KindOnDay}
use Rattle.desk_top.specs.declared.refusal.Refusal.{Refusal}
use Rattle.desk_top.specs.declared.refusal.Refusal.TheVariants.{InputTooLong, BadDeclaration, Rule}
use Rattle.desk_top.specs.declared.status.Status.{Status}
use Rattle.desk_top.specs.declared.status.Status.TheVariants.{Done, BadWords, ConsoleFault, StoreFault, Damaged, Refused, DoorsFault, OutOfMemory}
use Rattle.desk_top.specs.declared.program_words.WordsFault.{WordsFault}
use Rattle.desk_top.specs.declared.program_words.WordsFault.TheVariants as unread

-- the exit statuses by number; there are no others
abbrev pub status_code : Status → ℕ
status_code Done = 0
status_code BadWords = 2
status_code ConsoleFault = 3
status_code StoreFault = 4
status_code Damaged = 5
status_code Refused = 6
status_code DoorsFault = 7
status_code OutOfMemory = 8

-- the words of a refusal
abbrev pub refusal_text : Refusal → List ℕ
refusal_text InputTooLong = codes "refused input-too-long"
refusal_text (BadDeclaration fault) = codes "bad-declaration " ++ declare_fault_words fault
refusal_text (Rule fault) = codes "refused " ++ refusal_words fault

-- the line of a refusal
abbrev pub refusal_line : Refusal → List ℕ
refusal_line refusal = refusal_text refusal ++ codes "\n"

-- how a command ends, and the whole text that it writes
pub record Answer : Type 0 where
  pub status : Status
  pub text : List ℕ

-- the answer of `check`: status 0 with the text, or status 6 with the line of the refusal
abbrev pub answer_of_check : Result (List ℕ) Refusal → Answer
answer_of_check (Ok text) = record { status = Done; text = text }
answer_of_check (Err refusal) = record { status = Refused; text = refusal_line refusal }

-- the answer to words that are no command
abbrev pub answer_to_other_words : Answer
answer_to_other_words = record { status = BadWords; text = codes "desk: words\n" }

-- the answer of `audit` and of `sample`: the summary of these tables on a day
abbrev pub answer_of_summary : Lists → Date → Answer
answer_of_summary t day = record { status = Done; text = summary_text t day }

-- the answer to an import of so many records
abbrev pub answer_to_import : ℕ → Answer
answer_to_import number = record { status = Done; text = codes "imported " ++ decimal number ++ codes "\n" }

-- the answer to an import into a store that keeps something
abbrev pub answer_to_full_store : Answer
answer_to_full_store = record { status = Refused; text = codes "refused not-empty\n" }

-- the answer to an import of more bytes than a desk has
abbrev pub answer_to_long_import : Answer
answer_to_long_import = record { status = Refused; text = refusal_line InputTooLong }

-- the answer to an import whose line of this number is no record's, or whose lines, where it is 0, no desk has
abbrev pub answer_to_damaged_line : ℕ → Answer
answer_to_damaged_line line = record { status = Refused; text = codes "refused damaged line " ++ decimal line ++ codes "\n" }

-- the answer where there was no memory
abbrev pub answer_without_memory : Answer
answer_without_memory = record { status = OutOfMemory; text = codes "desk: memory\n" }

-- the answer where the console failed while it was read: nothing is written
abbrev pub answer_to_failed_reading : Answer
answer_to_failed_reading = record { status = ConsoleFault; text = [] }

-- the answer where the store refused a call
abbrev pub answer_to_store_fault : Answer
answer_to_store_fault = record { status = StoreFault; text = codes "desk: store\n" }

-- the answer where the doors failed
abbrev pub answer_to_doors_fault : Answer
answer_to_doors_fault = record { status = DoorsFault; text = codes "desk: doors\n" }

-- the answer where the store's records aren't those of sound tables: `desk: damaged KIND CODE`
abbrev pub answer_to_damage : ℕ → List ℕ → Answer
answer_to_damage kind code = record { status = Damaged; text = codes "desk: damaged " ++ decimal kind ++ codes " " ++ code ++ codes "\n" }

-- the answer where no desk was opened
abbrev pub answer_of_opening : OpenFault → Answer
answer_of_opening opening.KeeperFault = answer_to_store_fault
answer_of_opening (opening.Damaged kind code) = answer_to_damage kind code
answer_of_opening opening.OutOfMemory = answer_without_memory

-- the answer to words that weren't read: words that are no text are no command
abbrev pub answer_to_unread_words : WordsFault → Answer
answer_to_unread_words unread.NotText = answer_to_other_words
answer_to_unread_words unread.OutOfMemory = answer_without_memory

-- the bytes are an input of the console: those that it has left, where it tells them, and any bytes where it doesn't
abbrev pub IsInput : Option (List ℕ) → List ℕ → Type 0
IsInput None input = Unit {0}
IsInput (Some told) input = input ≡ told

-- the answer to a check for the bytes that come
abbrev pub answer_to_check : KindOnDay → List ℕ → Answer
answer_to_check check bytes = answer_of_check (check_outcome check bytes)

-- where a check ends with the status of a console's fault a read has failed, or what was to be written is the text of a success: the line
-- of a refusal that can't be written changes no status
abbrev pub IsReadingTold : KindOnDay → ℕ → Option (List ℕ) → Type 0 → Type 0
IsReadingTold check ended unread failed =
    ended ≡ status_code ConsoleFault → failed ⊎ ((input : List ℕ) × IsInput unread input × ((answer_to_check check input).status ≡ Done))

-- what is written where the program ends with this status: the answer's text, or the line that memory was wanting
abbrev pub text_with : ℕ → Answer → List ℕ
text_with ended answer = if ended == status_code OutOfMemory then answer_without_memory.text else answer.text

-- the program ended with this status, and made the old output the new one, as the answer says: or it
-- met a fault of the console, or had no memory
pub record Answers (answer : Answer) (ended : ℕ) (old new : Option (List ℕ)) (rose : Type 0) : Type 0 where
  pub status : (ended ≡ status_code answer.status) ⊎ (ended ≡ status_code ConsoleFault) ⊎ (ended ≡ status_code OutOfMemory)
  -- with success the whole text was written, whatever else happened
  pub whole : ended ≡ status_code Done → Appends old new answer.text
  -- where no fault was counted, the whole text or line was written in any case
  pub steady : (rose → ⊥) → Appends old new (text_with ended answer)
  -- whatever happened, what was written is a beginning of that, and nothing else
  pub beginning : AppendsBeginning old new (text_with ended answer)
  -- a fault of the console is told where nothing was written, or where the text of a success was written in part
  pub fault : ended ≡ status_code ConsoleFault → Keeps old new ⊎ ((answer.status ≡ Done) × AppendsPart old new answer.text)
