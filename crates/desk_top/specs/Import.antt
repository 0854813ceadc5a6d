-- What comes of an import: an empty store that is filled with what an export wrote, in one commit.
use Rattle.std.specs.Prelude.{◌≡◌, ◌⊎◌, ℕ, ◌+◌, ◌<◌, ◌≤◌, List, length}
use Rattle.std.specs.Io.KnownBytes.{Consumes, IsAtEnd, Keeps}
use Rattle.desk_edge.specs.Content.{Content, IsEmpty, IsSame}
use Rattle.desk_history.specs.Sound.{Sound}
use Rattle.desk_model.specs.Lists.{Lists}
use Rattle.desk_records.specs.Records.{tables_content}
use Rattle.desk_report.specs.File.{IsFileOf}
use Rattle.desk_report.specs.Imported.{IsDamagedLine, import_limit}
use Rattle.desk_top.specs.Answer.{Answer, Answers, answer_to_damaged_line, answer_to_full_store, answer_to_import, answer_to_long_import}
use Rattle.desk_top.specs.Answer.{answer_to_failed_reading, answer_to_store_fault, answer_without_memory, status_code}
use Rattle.desk_top.specs.Console.{Console, IsFaulty}
use Rattle.desk_top.specs.declared.status.Status.TheVariants.{ConsoleFault, Done}

-- the input was read to its end, as these bytes
abbrev pub IsReadWhole : Console → List ℕ → Type 0
IsReadWhole c bytes = Consumes c.unread c.left bytes × IsAtEnd c.left × (length bytes ≤ import_limit)

-- the input is the export file of sound tables, which the store keeps now, and it kept nothing before; the number of records was
-- written, or the console failed while it was
pub record WasImported (Tells : Type 0) (kept keeps : Content) (ended : ℕ) (c : Console) : Type 0 where
  pub bytes : List ℕ
  pub read : IsReadWhole c bytes
  pub tables : Lists
  pub sound : Sound tables
  pub number : ℕ
  pub file : IsFileOf tables number bytes
  pub empty : Tells → IsEmpty kept
  pub closed : Tells → IsSame (tables_content tables) keeps
  pub told : Answers (answer_to_import number) ended c.before c.after (IsFaulty c)
  pub status : (ended ≡ status_code Done) ⊎ (ended ≡ status_code ConsoleFault)

-- why nothing was put in: the store keeps something, and nothing was read; or it keeps nothing, and the input is too long, or no
-- export file of sound tables; or the store refused a call; or there was no memory; or the store keeps nothing, and the console failed
-- while it was read
abbrev pub IsImportRefusal : Type 0 → Content → ℕ → Console → Answer → Type 0
IsImportRefusal Tells kept faults c answer =
    ((answer ≡ answer_to_full_store) × Keeps c.unread c.left × (Tells → IsEmpty kept → ⊥))
    ⊎ ((answer ≡ answer_to_long_import) × (Tells → IsEmpty kept)
    × (bytes : List ℕ) × Consumes c.unread c.left bytes × (length bytes ≡ import_limit + 1))
    ⊎ ((line : ℕ) × (answer ≡ answer_to_damaged_line line) × (Tells → IsEmpty kept)
    × (bytes : List ℕ) × IsReadWhole c bytes × IsDamagedLine bytes line)
    ⊎ ((answer ≡ answer_to_store_fault) × (0 < faults))
    ⊎ (answer ≡ answer_without_memory)
    ⊎ ((answer ≡ answer_to_failed_reading) × (Tells → IsEmpty kept))

-- nothing was put in, and the store is as it was; the status is that of the answer, and no other; no byte past the one after the
-- limit was asked for
pub record WasRefused (Tells : Type 0) (kept keeps : Content) (faults : ℕ) (ended : ℕ) (c : Console) : Type 0 where
  pub answer : Answer
  pub cause : IsImportRefusal Tells kept faults c answer
  pub status : ended ≡ status_code answer.status
  pub told : Answers answer ended c.before c.after (IsFaulty c)
  pub closed : Tells → IsSame kept keeps
  pub taken : (bytes : List ℕ) × Consumes c.unread c.left bytes × (length bytes ≤ import_limit + 1)

-- how an import ends with this status
abbrev pub EndsImport : Type 0 → Content → Content → ℕ → ℕ → Console → Type 0
EndsImport Tells kept keeps faults ended c =
    WasImported Tells kept keeps ended c ⊎ WasRefused Tells kept keeps faults ended c
