-- What a clerk's lists of edits become by an edit: all that is accepted, and what of it is published.
use Rattle.std.specs.Prelude.{ℕ, ◌≡◌, List, [], ◌∷◌, ◌++◌, Option, None, Some}
use Rattle.desk_history.specs.Refused.{refused}
use Rattle.desk_history.specs.Step.{kept_number, step}
use Rattle.desk_model.specs.Lists.{Lists}
use Rattle.desk_model.specs.declared.edit.Edit.{Edit}
use Rattle.desk_model.specs.declared.rule_fault.RuleFault.{RuleFault}

-- the edit, where it isn't kept and it meets no refusal
abbrev pub if_new : Edit → Option ℕ → Option RuleFault → List Edit
if_new made (Some number) broken = []
if_new made None (Some cause) = []
if_new made None None = made ∷ []

-- what an edit adds to the list that leaves these tables: itself where it is new and accepted, and else nothing
abbrev pub added_to_list : Lists → Edit → List Edit
added_to_list t made = if_new made (kept_number t made) (refused t made)

-- the edit that is kept and not yet published, if there is one
abbrev pub waiting_edit : Option Edit → List Edit
waiting_edit None = []
waiting_edit (Some edit) = edit ∷ []

-- the edit is taken in: where it is new and accepted it stands behind the list, and the tables are those that its step leaves
abbrev pub IsTakenIn : List Edit → Lists → Edit → List Edit → Lists → Type 0
IsTakenIn accepted t edit accepted_now now = (accepted_now ≡ accepted ++ added_to_list t edit) × (now ≡ (step t edit).1)

-- the edit is taken in, and nothing of it is published: what is published is the list before it
abbrev pub IsKeptUnpublished : List Edit → Lists → Edit → List Edit → List Edit → Lists → Type 0
IsKeptUnpublished accepted t edit published accepted_now now = IsTakenIn accepted t edit accepted_now now × (published ≡ accepted)
