-- A call on the console.
use Rattle.std.specs.Prelude.{◌≡◌, ℕ, ◌≤◌, List, Option}
use Rattle.desk_edge.specs.Faults.{Rose}

-- a call on the console: what it had left to give before and after, what was written to it before and after, and how many faults it had
-- counted before and after
pub record Console : Type 0 where
  pub unread : Option (List ℕ)
  pub left : Option (List ℕ)
  pub before : Option (List ℕ)
  pub after : Option (List ℕ)
  pub faults_before : ℕ
  pub faults : ℕ

-- the call that led from the old console to the new one, of which these tell what is unread, what was written and how many faults there were
abbrev pub console_step : {L : Type 0} → (L → Option (List ℕ)) → (L → Option (List ℕ)) → (L → ℕ) → L → L → Console
console_step unread written faults old new = record {
  unread = unread old;
  left = unread new;
  before = written old;
  after = written new;
  faults_before = faults old;
  faults = faults new;
}

-- the console counted a fault in the call
abbrev pub IsFaulty : Console → Type 0
IsFaulty c = Rose c.faults_before c.faults

-- A command tells of the console's faults by how it ends: their count never falls, it stays as it is where the command is done, and it
-- rises where the command has failed.
pub record TellsFaults (done fails : Type 0) (old new : ℕ) : Type 0 where
  pub never_falls : old ≤ new
  pub steady : done → new ≡ old
  pub rises : fails → Rose old new
