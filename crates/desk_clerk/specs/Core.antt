-- Published versions as a machine of lists: one writer's whole list, what of it is published, what was told of that, and what each seat
-- has. Each call on an opened desk is one of its events, but for `submit` of the clerk, which is up to three: where an edit waits it is
-- published, then the new one is submitted, and then published.
use Rattle.std.specs.Prelude.{◌≡◌, leb, ℕ, zero, suc, List, [], ◌∷◌, ◌++◌, length, fold, replicate, Option, None, Some, Result, true, ⊤, if◌then◌else◌}
use Rattle.std.specs.List.{AllByRecursion}
use Rattle.desk_clerk.specs.Published.{added_to_list}
use Rattle.desk_history.specs.History.{Begins, History, IsHistory, after}
use Rattle.desk_history.specs.Sound.{Sound}
use Rattle.desk_model.specs.Forms.{is_edit_in_form}
use Rattle.desk_model.specs.Lists.{Lists}
use Rattle.desk_model.specs.declared.edit.Edit.{Edit}
use Rattle.desk_scratch.specs.Eval.{eval}
use Rattle.desk_scratch.specs.declared.ask_fault.AskFault.{AskFault}
use Rattle.desk_scratch.specs.declared.question.Question.{Question}

-- what may happen: an edit is submitted, the whole list is published, a seat looks with a question, what is published is told as a note, or
-- a seat learns a note. Seats and notes are named by their places, from 0 on
pub data Event : Type 0 where
  submit : Edit → Event
  publish : Event
  look : ℕ → Question → Event
  tell : Event
  learn : ℕ → ℕ → Event

-- how a desk stands: the whole list, what is published, the notes in the order in which they were told, and each seat's list
pub record Core : Type 0 where
  pub whole : History
  pub published : History
  pub notes : List History
  pub seats : List History

-- the one at this place, if there is one
abbrev pub at : {X : Type 0} → ℕ → List X → Option X
at place [] = None
at zero (x ∷ xs) = Some x
at (suc place) (x ∷ xs) = at place xs

-- the list with the one at this place changed, if there is one
abbrev pub changed_at : {X : Type 0} → ℕ → (X → X) → List X → List X
changed_at place change [] = []
changed_at zero change (x ∷ xs) = change x ∷ xs
changed_at (suc place) change (x ∷ xs) = x ∷ changed_at place change xs

-- the longer of two lists, and the first where both are equally long
abbrev pub longer_list : History → History → History
longer_list first second = if (leb (length second.edits) (length first.edits)) then first else second

-- what a seat has that learns a note, if the note is there
abbrev pub learnt : Option History → History → History
learnt None list = list
learnt (Some note) list = longer_list list note

-- the list with what the edit adds to it behind
abbrev pub with_edit : History → Edit → History
with_edit list edit = record list { edits = list.edits ++ added_to_list (after list) edit }

-- what becomes of a desk by an event. One that names a seat or a note that isn't there changes nothing
abbrev pub happens : Core → Event → Core
happens core (submit edit) = record core { whole = with_edit core.whole edit }
happens core publish = record core { published = core.whole }
happens core (look seat question) = record core { seats = changed_at seat (λ list. core.published) core.seats }
happens core tell = record core { notes = core.notes ++ core.published ∷ [] }
happens core (learn seat note) = record core { seats = changed_at seat (learnt (at note core.notes)) core.seats }

-- the answer that a seat which is there gets to its question
abbrev pub answer_of_look : Core → Question → Result (List ℕ) AskFault
answer_of_look core question = eval (after core.published) question

-- a desk with so many seats, of which nothing has happened
abbrev pub core_at_start : Lists → ℕ → Core
core_at_start opening seats =
    let list : History = record { opening = opening; edits = [] } in
    record { whole = list; published = list; notes = []; seats = replicate seats list }

-- what is submitted is an edit in form
abbrev pub IsEventInForm : Event → Type 0
IsEventInForm (submit edit) = is_edit_in_form edit ≡ true
IsEventInForm publish = ⊤
IsEventInForm (look seat question) = ⊤
IsEventInForm tell = ⊤
IsEventInForm (learn seat note) = ⊤

-- these events lead there, from sound tables on
pub record IsReached (core : Core) : Type 0 where
  pub opening : Lists
  pub sound : Sound opening
  pub seats : ℕ
  pub events : List Event
  pub in_form : AllByRecursion IsEventInForm events
  pub leads : core ≡ fold happens (core_at_start opening seats) events
