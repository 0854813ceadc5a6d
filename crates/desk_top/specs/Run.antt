-- What the program does for each command.
use Rattle.std.specs.Prelude.{◌≡◌, ◌≢◌, ℕ, ◌+◌, ◌≤◌, List, length, Option, None, Some}
use Rattle.std.specs.Io.KnownBytes.{Consumes, IsAtEnd}
use Rattle.std.specs.Option.{option_and_then}
use Rattle.desk_edge.specs.Content.{Content}
use Rattle.desk_top.specs.Answer.{Answers, IsInput, answer_to_check, status_code}
use Rattle.desk_top.specs.Check.{input_limit}
use Rattle.desk_top.specs.Console.{Console, IsFaulty}
use Rattle.desk_top.specs.Import.{EndsImport}
use Rattle.desk_top.specs.Reports.{EndsAudit, EndsExport}
use Rattle.desk_top.specs.Sample.{answer_to_sample}
use Rattle.desk_top.specs.Serve.{Doorway, EndsServing}
use Rattle.desk_top.specs.Session.{EndsSession, nothing_kept}
use Rattle.desk_top.specs.Store.{IsKept, OnStore, Shelving}
use Rattle.desk_top.specs.declared.status.Status.TheVariants.{Done, ConsoleFault}
use Rattle.desk_words.specs.Commands.{command_of}
use Rattle.desk_law.specs.declared.kind_on_day.KindOnDay.{KindOnDay}
use Rattle.desk_words.specs.declared.command.Command.{Command}
use Rattle.desk_words.specs.declared.command.Command.TheVariants as asked
use Rattle.desk_words.specs.declared.command.Serve.{Serve}

-- The status and the whole text are the ones that are meant for the input. No byte past the one after the limit is asked for, and that
-- one is never followed by the status of a console's fault.
pub record IsChecked (check : KindOnDay) (ended : ℕ) (c : Console) : Type 0 where
  pub input : List ℕ
  pub is : IsInput c.unread input
  pub answers : Answers (answer_to_check check input) ended c.before c.after (IsFaulty c)
  pub end : ended ≡ status_code Done → IsAtEnd c.left
  pub taken : (bytes : List ℕ) × Consumes c.unread c.left bytes × (length bytes ≤ input_limit + 1)
  pub fault : ended ≡ status_code ConsoleFault → (bytes : List ℕ) × Consumes c.unread c.left bytes × (length bytes ≤ input_limit)

-- the answer was written, and nothing was read
abbrev pub IsWritten : (Console → Type 0) → Console → Type 0
IsWritten Told c = (c.left ≡ c.unread) × Told c

-- a session is served over the desk of its store, or without one over a new desk, whose keeper counts no fault
abbrev pub IsSession : Shelving → Option (List ℕ) → ℕ → Console → Type 0
IsSession shelf None ended c = (content : Content) × EndsSession (Unit {0}) nothing_kept content 0 ended c
IsSession shelf (Some name) ended c = OnStore shelf EndsSession name ended c

-- so many connections are served over the desk of a store, or without one over a new desk, whose keeper counts no fault
abbrev pub IsServedOver : Shelving → Option ℕ → Doorway → Option (List ℕ) → ℕ → Console → Type 0
IsServedOver shelf wanted doors None ended c = (content : Content) × EndsServing wanted doors (Unit {0}) nothing_kept content 0 ended c
IsServedOver shelf wanted doors (Some name) ended c = OnStore shelf (EndsServing wanted doors) name ended c

-- the connections that a command asks for are served
abbrev pub IsServing : Shelving → Serve → Doorway → ℕ → Console → Type 0
IsServing shelf serve doors ended c = IsServedOver shelf serve.connections doors serve.store ended c

-- what each command comes to, where the program ends with this status, and these are the shelf, the doors and the console before it and
-- after it
abbrev pub Does : Shelving → Doorway → Command → ℕ → Console → Type 0
Does shelf doors (asked.Check check) ended c = IsChecked check ended c
Does shelf doors (asked.Session session) ended c = IsSession shelf session.store ended c
Does shelf doors (asked.Serve serve) ended c = IsServing shelf serve doors ended c
Does shelf doors (asked.Export export) ended c = OnStore shelf EndsExport export.store ended c
Does shelf doors (asked.Import import) ended c = OnStore shelf EndsImport import.store ended c
Does shelf doors (asked.Audit audit) ended c = OnStore shelf (EndsAudit audit.day) audit.store ended c
Does shelf doors (asked.Sample sample) ended c =
    IsWritten (λ c. Answers (answer_to_sample sample.size) ended c.before c.after (IsFaulty c)) c

-- the name of the store that a command is for, if it is for one
abbrev pub store_of : Command → Option (List ℕ)
store_of (asked.Session session) = session.store
store_of (asked.Serve serve) = serve.store
store_of (asked.Export export) = Some export.store
store_of (asked.Import import) = Some import.store
store_of (asked.Audit audit) = Some audit.store
store_of _ = None

-- the name of the store that these words are for, if they are a command that is for one
abbrev pub store_in : List (List ℕ) → Option (List ℕ)
store_in words = option_and_then store_of (command_of words)

-- no store changes but the one of this name, if there is one
abbrev pub OtherStoresStay : Option (List ℕ) → Shelving → Type 0
OtherStoresStay named shelf = (other : List ℕ) → named ≢ Some other → IsKept shelf other
