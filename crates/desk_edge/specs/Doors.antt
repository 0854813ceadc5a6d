-- What doors give, and doors in memory: what they give and refuse, call by call.
use Rattle.std.specs.Prelude.{◌≡◌, ℕ, ◌==◌, Bool, true, List, [], ◌∷◌, Option, None, Some, Result, Ok, Err, if◌then◌else◌}
use Rattle.std.specs.List.{list_any}
use Rattle.desk_edge.specs.Faults.{one_more}
use Rattle.desk_edge.specs.Memory.{Memory}
use Rattle.desk_edge.specs.declared.failed.Failed.{Failed}

-- how many lines were taken before a call and after it: a line adds one, and nothing else does
abbrev pub AreLinesCounted : {L : Type 0} → Result (Option L) Failed → ℕ → ℕ → Type 0
AreLinesCounted (Ok (Some line)) old new = new ≡ one_more old
AreLinesCounted (Ok None) old new = new ≡ old
AreLinesCounted (Err failed) old new = new ≡ old

-- doors in memory, as their calls see them
pub record Listed : Type 0 where
  -- the lines that are still to be given, in order
  pub lines : List Memory
  -- the numbers of the calls that fail, counted from 1
  pub failing : List ℕ
  -- how many calls were made, counted up to the last value of the count
  pub calls : ℕ
  -- how many of them failed, and how many lines were given, counted in the same way
  pub faults : ℕ
  pub taken : ℕ
  -- whether the doors are closed: they were asked for a line that they didn't have
  pub is_closed : Bool

-- whether the next call is one of those that fail
abbrev pub doors_fail_next : Listed → Bool
doors_fail_next d = list_any (λ n. n == one_more d.calls) d.failing

-- the doors after a call that failed, which is counted twice, as a call and as a fault
abbrev pub doors_after_fault : Listed → Listed
doors_after_fault d = record d { calls = one_more d.calls; faults = one_more d.faults }

-- the doors after a call that didn't fail and gave nothing
abbrev pub doors_after_call : Listed → Listed
doors_after_call d = record d { calls = one_more d.calls }

-- the first of the lines, if there is one
abbrev pub first_line : List Memory → Option Memory
first_line [] = None
first_line (line ∷ lines) = Some line

-- the doors after a line was asked for: the first is given, and where there is none the doors are closed
abbrev pub after_asked : List Memory → Listed → Listed
after_asked [] d = record d { calls = one_more d.calls; is_closed = true }
after_asked (line ∷ lines) d = record d { calls = one_more d.calls; lines = lines; taken = one_more d.taken }

-- what a call for a line answers
abbrev pub next_answer : Listed → Result (Option Memory) Failed
next_answer d = if doors_fail_next d then Err (record {}) else Ok (first_line d.lines)

-- the doors after a call for a line
abbrev pub after_next : Listed → Listed
after_next d = if doors_fail_next d then doors_after_fault d else after_asked d.lines d

-- what a call to listen answers
abbrev pub listen_answer : Listed → Result (Unit {0}) Failed
listen_answer d = if doors_fail_next d then Err (record {}) else Ok tt

-- the doors after a call to listen
abbrev pub after_listen : Listed → Listed
after_listen d = if doors_fail_next d then doors_after_fault d else doors_after_call d
