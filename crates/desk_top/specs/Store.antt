-- Whether a command over the desk of a store began, and what the shelf tells of the store after it.
use Rattle.std.specs.Prelude.{◌≡◌, ◌⊎◌, ℕ, ◌<◌, List}
use Rattle.std.specs.Io.KnownBytes.{Keeps}
use Rattle.desk_clerk.specs.Opening.{IsDamagedAt, IsOpenedAs}
use Rattle.desk_edge.specs.Content.{Content, IsEmpty, IsSame}
use Rattle.desk_edge.specs.Faults.{Rose}
use Rattle.desk_history.specs.Sound.{Sound}
use Rattle.desk_model.specs.Lists.{Lists}
use Rattle.desk_model.specs.Start.{start}
use Rattle.desk_records.specs.Records.{tables_content}
use Rattle.desk_top.specs.Answer.{Answer, Answers, answer_to_damage, answer_to_store_fault, answer_without_memory, status_code}
use Rattle.desk_top.specs.Console.{Console, IsFaulty}
use Rattle.desk_top.specs.declared.status.Status.TheVariants.{OutOfMemory, StoreFault}

-- why a command didn't begin: the store refused a call, its records aren't those of sound tables, or there was no memory
abbrev pub IsCause : Type 0 → Content → ℕ → Answer → Type 0
IsCause Tells kept faults answer =
    ((answer ≡ answer_to_store_fault) × (0 < faults))
    ⊎ ((kind : ℕ) × (code : List ℕ) × (answer ≡ answer_to_damage kind code) × IsDamagedAt Tells kept kind code
    × (Tells → (t : Lists) → Sound t → IsOpenedAs kept t → ⊥))
    ⊎ (answer ≡ answer_without_memory)

-- nothing was read, and the line that was written tells why; the store is as it was, or memory was wanting, and it was empty and keeps
-- the start tables
pub record WasNotBegun (Tells : Type 0) (kept keeps : Content) (faults : ℕ) (ended : ℕ) (c : Console) : Type 0 where
  pub answer : Answer
  pub cause : IsCause Tells kept faults answer
  pub status : (ended ≡ status_code answer.status) ⊎ (ended ≡ status_code OutOfMemory)
  pub told : Answers answer ended c.before c.after (IsFaulty c)
  pub unread : Keeps c.unread c.left
  pub closed : Tells → IsSame kept keeps ⊎ ((answer ≡ answer_without_memory) × IsEmpty kept × IsSame (tables_content start) keeps)

-- How a command over a store ends: by whether the store tells what it keeps, what it kept before, and keeps now, how many faults it has
-- counted, the status and the console.
abbrev pub Ending : Type 1
Ending = Type 0 → Content → Content → ℕ → ℕ → Console → Type 0

-- the shelf opened no store, since it counted a fault or memory was wanting; nothing was read
abbrev pub IsUnopened : ℕ → Console → Type 0
IsUnopened ended c = ((ended ≡ status_code StoreFault) ⊎ (ended ≡ status_code OutOfMemory)) × Keeps c.unread c.left

-- a call on a shelf: of which stores it told what they keep, and tells it now, what these kept, and keep now, how many faults each had
-- counted as it was given back last, and whether the shelf counted a fault in the call
pub record Shelving : Type 1 where
  pub Told : List ℕ → Type 0
  pub Tells : List ℕ → Type 0
  pub kept : List ℕ → Content
  pub keeps : List ℕ → Content
  pub count : List ℕ → ℕ
  pub Lost : Type 0

-- the call that led from the old shelf to the new one, of which these tell which stores it tells, what they keep, how many faults each had
-- counted, and how many the shelf has
abbrev pub shelf_step : {S : Type 0} → (S → List ℕ → Type 0) → (S → List ℕ → Content) → (S → List ℕ → ℕ) → (S → ℕ) → S → S → Shelving
shelf_step Tells content count faults old new = record {
  Told = Tells old;
  Tells = Tells new;
  kept = content old;
  keeps = content new;
  count = count new;
  Lost = Rose (faults old) (faults new);
}

-- if the shelf tells now what the store of this name keeps, it told that before, and the store keeps the same
abbrev pub IsKept : Shelving → List ℕ → Type 0
IsKept shelf name = shelf.Tells name → shelf.Told name × IsSame (shelf.kept name) (shelf.keeps name)

-- A command over the store of this name ended so. What the shelf tells of the store afterwards it told before, and a fault of the store
-- is one that the shelf has counted. How many the store has counted the shelf tells, to which it was given back, unless it wasn't opened.
abbrev pub OnStore : Shelving → Ending → List ℕ → ℕ → Console → Type 0
OnStore shelf Ends name ended c =
    (faults : ℕ) × Ends (shelf.Tells name) (shelf.kept name) (shelf.keeps name) faults ended c × (shelf.Tells name → shelf.Told name)
    × (0 < faults → shelf.Lost) × ((faults ≡ shelf.count name) ⊎ IsUnopened ended c)
