-- One edit: its answer, and the tables that it leaves.
use Rattle.std.specs.Prelude.{ℕ, Option, Some, None, Result, Ok, Err, if◌then◌else◌}
use Rattle.std.specs.Option.{option_and_then}
use Rattle.desk_model.specs.declared.edit.Edit.{Edit}
use Rattle.desk_model.specs.declared.rule_fault.RuleFault.{RuleFault}
use Rattle.desk_model.specs.EditText.{edit_text, same_text, ticket_code}
use Rattle.desk_model.specs.Effect.{with_edit_entered, next_number}
use Rattle.desk_model.specs.Lists.{Lists, ticket_row}
use Rattle.desk_history.specs.Refused.{refused}

-- the number of the edit, where the tables hold its ticket with its text
unfoldable pub kept_number : Lists → Edit → Option ℕ
kept_number t edit =
    option_and_then (λ ticket. if same_text ticket.text (edit_text edit) then Some ticket.number else None) (ticket_row t (ticket_code edit))

-- an edit that isn't kept: a rule refuses it and the tables stay, or it is made and gets the next number
abbrev pub step_new : Lists → Edit → Option RuleFault → Result ℕ RuleFault × Lists
step_new t edit (Some fault) = (Err fault, t)
step_new t edit None = (Ok (next_number t), with_edit_entered t edit)

-- an edit that is kept already gets its number, and the tables stay
abbrev pub step_from : Lists → Edit → Option ℕ → Result ℕ RuleFault × Lists
step_from t edit (Some number) = (Ok number, t)
step_from t edit None = step_new t edit (refused t edit)

-- the answer to an edit, and the tables after it
unfoldable pub step : Lists → Edit → Result ℕ RuleFault × Lists
step t edit = step_from t edit (kept_number t edit)
