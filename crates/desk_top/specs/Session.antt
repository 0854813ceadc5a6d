-- What comes of a session: one stream of requests that is served on the console, over the desk of a store or over a new one.
use Rattle.std.specs.Prelude.{◌≡◌, ◌⊎◌, ℕ, ◌≤◌, List, None, length}
use Rattle.std.specs.Io.KnownBytes.{Consumes}
use Rattle.desk_model.specs.Lists.{number_at}
use Rattle.desk_clerk.specs.Opening.{IsOpenedAs}
use Rattle.desk_edge.specs.Content.{Content, IsSame}
use Rattle.desk_front.specs.Served.{Serves, stream_limit}
use Rattle.desk_front.specs.Turn.{Converses, Standing}
use Rattle.desk_front.specs.declared.served.Served.{Served}
use Rattle.desk_front.specs.declared.served.Served.TheVariants.{Ended, Cut, TooLong, LinkFault, OutOfMemory}
use Rattle.desk_history.specs.Sound.{Sound}
use Rattle.desk_model.specs.Lists.{Lists}
use Rattle.desk_records.specs.Records.{tables_content}
use Rattle.desk_top.specs.Answer.{status_code}
use Rattle.desk_top.specs.Console.{Console}
use Rattle.desk_top.specs.Store.{WasNotBegun}
use Rattle.desk_top.specs.declared.status.Status.{Status}
use Rattle.desk_top.specs.declared.status.Status.TheVariants as status

-- the status that tells how the serving of a stream ended
abbrev pub exit_status_of : Served → Status
exit_status_of Ended = status.Done
exit_status_of Cut = status.Refused
exit_status_of TooLong = status.Refused
exit_status_of LinkFault = status.ConsoleFault
exit_status_of OutOfMemory = status.OutOfMemory

-- what is kept where there is no store
abbrev pub nothing_kept : Content
nothing_kept key = None

-- a session begins at these tables: no more than these are met, and the store has counted no fault
abbrev pub begun : Lists → Standing
begun t = record { current = t; last_seen = number_at t; faults = 0 }

-- The stream was served over these tables, and the store keeps the desk as the last request has left it, where it tells what it keeps. It
-- has counted so many faults, and no more bytes were read than the most of a stream.
pub record WasServed (Tells : Type 0) (keeps : Content) (faults : ℕ) (first : Lists) (served : Served) (c : Console) : Type 0 where
  pub sound : Sound first
  pub last : Lists
  pub bytes : List ℕ
  pub read : Consumes c.unread c.left bytes
  pub within : length bytes ≤ stream_limit
  pub serves : Serves (Converses (begun first) last faults) served bytes c.left c.before c.after
  pub closed : Tells → IsSame (tables_content last) keeps

-- how a session ends with this status: it was served from the tables that the store is opened as, or it didn't begin
abbrev pub EndsSession : Type 0 → Content → Content → ℕ → ℕ → Console → Type 0
EndsSession Tells kept keeps faults ended c =
    ((first : Lists) × (Tells → IsOpenedAs kept first) × (served : Served) × (ended ≡ status_code (exit_status_of served))
    × WasServed Tells keeps faults first served c)
    ⊎ WasNotBegun Tells kept keeps faults ended c
