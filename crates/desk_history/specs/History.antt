-- Histories: opening tables, and the edits that were accepted since, in order.
use Rattle.std.specs.Prelude.{◌≡◌, ℕ, ◌-◌, true, List, [], ◌∷◌, ◌++◌, None, take, ⊤}
use Rattle.desk_model.specs.declared.edit.Edit.{Edit}
use Rattle.desk_model.specs.Forms.{is_edit_in_form}
use Rattle.desk_model.specs.Lists.{Lists, number_at}
use Rattle.desk_history.specs.Refused.{closes_cycle, refused, refused_by_rows}
use Rattle.desk_history.specs.Sound.{Sound}
use Rattle.desk_history.specs.Step.{kept_number, step}

-- a history: the tables that it opens with, and its edits in order
pub record History : Type 0 where
  pub opening : Lists
  pub edits : List Edit

-- the tables after these edits, one step after the other
abbrev pub tables_after : Lists → List Edit → Lists
tables_after t [] = t
tables_after t (edit ∷ edits) = tables_after (step t edit).1 edits

-- the tables at the end of a history
abbrev pub after : History → Lists
after history = tables_after history.opening history.edits

-- the edit is in form and new at the tables, and it meets no refusal
pub record IsAccepted (t : Lists) (edit : Edit) : Type 0 where
  pub in_form : is_edit_in_form edit ≡ true
  pub is_new : kept_number t edit ≡ None
  pub is_unrefused : refused t edit ≡ None

-- the edit is in form and new at the tables, and it meets none of the refusals 1 to 20: what may still refuse it are the sums
pub record PassesRows (t : Lists) (edit : Edit) : Type 0 where
  pub in_form : is_edit_in_form edit ≡ true
  pub is_new : kept_number t edit ≡ None
  pub by_rows : refused_by_rows t edit ≡ None
  pub by_cycle : closes_cycle t edit ≡ None

-- each edit is accepted at the tables that the ones before it leave
abbrev pub AreAccepted : Lists → List Edit → Type 0
AreAccepted t [] = ⊤
AreAccepted t (edit ∷ edits) = IsAccepted t edit × AreAccepted (step t edit).1 edits

-- the history opens with sound tables, and its edits are accepted in turn
pub record IsHistory (history : History) : Type 0 where
  pub sound : Sound history.opening
  pub accepted : AreAccepted history.opening history.edits

-- the number of a history is the number of tickets at its end
abbrev pub number_of : History → ℕ
number_of history = number_at (after history)

-- the history up to a number: each edit adds one ticket, so a number names one prefix
abbrev pub up_to : History → ℕ → History
up_to history number = record history { edits = take (number - number_at history.opening) history.edits }

-- the first history begins the second: both open with the same tables, and the first's edits are the first of the
-- second's
pub record Begins (first second : History) : Type 0 where
  pub opening : first.opening ≡ second.opening
  pub rest : List Edit
  pub edits : second.edits ≡ first.edits ++ rest
