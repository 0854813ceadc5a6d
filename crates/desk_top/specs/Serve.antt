-- What comes of serving connections: each that the doors give is served, until they are closed, have given as many as were asked for, or
-- have failed.
use Rattle.std.specs.Prelude.{◌≡◌, ◌⊎◌, ℕ, ◌+◌, ◌≤◌, Bool, true, List, Option, None, Some}
use Rattle.std.specs.Io.KnownBytes.{Keeps}
use Rattle.desk_clerk.specs.Clerk.{list_from}
use Rattle.desk_clerk.specs.Opening.{IsOpenedAs}
use Rattle.desk_edge.specs.Content.{Content, IsSame}
use Rattle.desk_edge.specs.Faults.{Rose}
use Rattle.desk_history.specs.History.{IsHistory, after}
use Rattle.desk_model.specs.Lists.{Lists}
use Rattle.desk_model.specs.declared.edit.Edit.{Edit}
use Rattle.desk_records.specs.Records.{tables_content}
use Rattle.desk_top.specs.Answer.{Answers, answer_to_doors_fault, answer_without_memory, status_code}
use Rattle.desk_top.specs.Console.{Console, IsFaulty}
use Rattle.desk_top.specs.Store.{WasNotBegun}
use Rattle.desk_top.specs.declared.status.Status.{Status}
use Rattle.desk_top.specs.declared.status.Status.TheVariants.{Done, DoorsFault, OutOfMemory}

-- doors before a command and after it: how many faults they had counted and have counted, how many lines they had given and have given, and
-- whether they are closed now
pub record Doorway : Type 0 where
  pub faults_before : ℕ
  pub faults : ℕ
  pub taken_before : ℕ
  pub taken : ℕ
  pub is_closed : Bool

-- the doors that were these and now are those, of which these tell their faults, the lines that they gave and whether they are closed
abbrev pub doorway_step : {D : Type 0} → (D → ℕ) → (D → ℕ) → (D → Bool) → D → D → Doorway
doorway_step faults taken is_closed old new = record {
  faults_before = faults old;
  faults = faults new;
  taken_before = taken old;
  taken = taken new;
  is_closed = is_closed new;
}

-- as many lines were given as were asked for, where a number of them was
abbrev pub AreAllTaken : Option ℕ → Doorway → Type 0
AreAllTaken None doors = ⊥
AreAllTaken (Some number) doors = doors.taken_before + number ≤ doors.taken

-- nothing is left to serve: the doors are closed, or as many lines were given as were asked for
abbrev pub IsServedOut : Option ℕ → Doorway → Type 0
IsServedOut connections doors = (doors.is_closed ≡ true) ⊎ AreAllTaken connections doors

-- the doors counted a fault, and the line that tells so was written; or they counted none, and nothing is left to serve, and nothing was
-- written
abbrev pub EndsByDoors : Option ℕ → ℕ → Doorway → Console → Type 0
EndsByDoors connections ended doors c =
    (Rose doors.faults_before doors.faults × (ended ≡ status_code DoorsFault) × Answers answer_to_doors_fault ended c.before c.after (IsFaulty c))
    ⊎ ((ended ≡ status_code Done) × IsServedOut connections doors × Keeps c.before c.after)

-- Connections were served over these tables, and the store keeps, where it tells what it keeps, the tables after edits that were accepted
-- one after the other from these on. Nothing was read from the console.
pub record WereServed (connections : Option ℕ) (Tells : Type 0) (keeps : Content) (first : Lists) (ended : ℕ) (doors : Doorway) (c : Console) : Type 0 where
  pub edits : List Edit
  pub history : IsHistory (list_from first edits)
  pub ends : EndsByDoors connections ended doors c
  pub unread : Keeps c.unread c.left
  pub closed : Tells → IsSame (tables_content (after (list_from first edits))) keeps

-- there was no memory to serve connections over these tables, which the store keeps, and none was taken
pub record WasUnserved (Tells : Type 0) (keeps : Content) (first : Lists) (ended : Status) (doors : Doorway) (c : Console) : Type 0 where
  pub memory : ended ≡ OutOfMemory
  pub unasked : doors.taken ≡ doors.taken_before
  pub unread : Keeps c.unread c.left
  pub told : Answers answer_without_memory (status_code ended) c.before c.after (IsFaulty c)
  pub closed : Tells → IsSame (tables_content first) keeps

-- how serving connections ends with this status: they were served from the tables that the store is opened as, or it didn't begin, and none
-- was taken
abbrev pub EndsServing : Option ℕ → Doorway → Type 0 → Content → Content → ℕ → ℕ → Console → Type 0
EndsServing connections doors Tells kept keeps faults ended c =
    ((first : Lists) × (Tells → IsOpenedAs kept first) × WereServed connections Tells keeps first ended doors c)
    ⊎ ((doors.taken ≡ doors.taken_before) × WasNotBegun Tells kept keeps faults ended c)
