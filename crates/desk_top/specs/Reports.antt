-- What comes of an export and of an audit: what is written of the desk of a store, which stays as it was opened.
use Rattle.std.specs.Prelude.{◌≡◌, ◌⊎◌, ℕ, List, Option}
use Rattle.std.specs.Io.KnownBytes.{Appends, Keeps}
use Rattle.desk_clerk.specs.Opening.{IsOpenedAs}
use Rattle.desk_edge.specs.Content.{Content, IsSame}
use Rattle.desk_edge.specs.Transfer.{AppendsBeginning}
use Rattle.desk_history.specs.Sound.{Sound}
use Rattle.desk_model.specs.Lists.{Lists}
use Rattle.desk_records.specs.Records.{tables_content}
use Rattle.desk_report.specs.File.{IsFileOf}
use Rattle.desk_text.specs.Day.{Date}
use Rattle.desk_top.specs.Answer.{Answers, answer_of_summary, answer_without_memory, status_code}
use Rattle.desk_top.specs.Console.{Console, IsFaulty}
use Rattle.desk_top.specs.Store.{WasNotBegun}
use Rattle.desk_top.specs.declared.status.Status.TheVariants.{Done, ConsoleFault, OutOfMemory}

-- nothing was read, the tables are sound, and the store keeps them
pub record WasLookedAt (Tells : Type 0) (keeps : Content) (first : Lists) (c : Console) : Type 0 where
  pub sound : Sound first
  pub unread : Keeps c.unread c.left
  pub closed : Tells → IsSame (tables_content first) keeps

-- a beginning of the file was written, and behind it the line that memory was wanting, whole where no fault was counted
pub record IsCutShort (file : List ℕ) (before after : Option (List ℕ)) (rose : Type 0) : Type 0 where
  pub cut : Option (List ℕ)
  pub beginning : AppendsBeginning before cut file
  pub line : AppendsBeginning cut after answer_without_memory.text
  pub whole_line : (rose → ⊥) → Appends cut after answer_without_memory.text

-- The whole file was written, or a beginning of it: up to where the console failed, or where memory was wanting.
pub record WasWritten (file : List ℕ) (ended : ℕ) (before after : Option (List ℕ)) (rose : Type 0) : Type 0 where
  pub status : (ended ≡ status_code Done) ⊎ (ended ≡ status_code ConsoleFault) ⊎ (ended ≡ status_code OutOfMemory)
  pub whole : ended ≡ status_code Done → Appends before after file
  pub fault : ended ≡ status_code ConsoleFault → AppendsBeginning before after file
  pub memory : ended ≡ status_code OutOfMemory → IsCutShort file before after rose

-- the export file of tables, of so many records, was written
abbrev pub WasExported : Lists → ℕ → Option (List ℕ) → Option (List ℕ) → Type 0 → Type 0
WasExported t ended before after rose =
    (number : ℕ) × (file : List ℕ) × IsFileOf t number file × WasWritten file ended before after rose

-- how an export ends with this status: the export file of the tables that the store is opened as was written, or it didn't begin
abbrev pub EndsExport : Type 0 → Content → Content → ℕ → ℕ → Console → Type 0
EndsExport Tells kept keeps faults ended c =
    ((first : Lists) × (Tells → IsOpenedAs kept first) × WasLookedAt Tells keeps first c × WasExported first ended c.before c.after (IsFaulty c))
    ⊎ WasNotBegun Tells kept keeps faults ended c

-- how an audit ends with this status: the summary of the tables that the store is opened as was written, or it didn't begin
abbrev pub EndsAudit : Date → Type 0 → Content → Content → ℕ → ℕ → Console → Type 0
EndsAudit day Tells kept keeps faults ended c =
    ((first : Lists) × (Tells → IsOpenedAs kept first) × WasLookedAt Tells keeps first c
    × Answers (answer_of_summary first day) ended c.before c.after (IsFaulty c))
    ⊎ WasNotBegun Tells kept keeps faults ended c
