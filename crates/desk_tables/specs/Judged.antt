-- What the refusals 1 to 19 leave of an edit: a plan, which has yet to pass the refusals on the whole bill, or a refusal.
use Rattle.std.specs.Prelude.{◌≡◌, ℕ, true, Option, Some, None, Result, Ok, Err}
use Rattle.desk_model.specs.declared.edit.Edit.{Edit}
use Rattle.desk_model.specs.declared.rows.ticket.TicketRow.{TicketRow}
use Rattle.desk_model.specs.declared.rule_fault.RuleFault.{RuleFault}
use Rattle.desk_model.specs.Effect.{with_edit_entered, with_edit_made, next_number}
use Rattle.desk_model.specs.Lists.{Lists}
use Rattle.desk_history.specs.Refused.{first_some, refused_by_rows, refusals_of_names, refusals_of_values, ticket_reused}
use Rattle.desk_history.specs.Step.{kept_number, step}
use Rattle.desk_tables.specs.Change.{with_change_made}
use Rattle.desk_tables.specs.Desk.{Desk}
use Rattle.desk_tables.specs.Sums.{is_of_sums, may_raise_sums}
use Rattle.desk_tables.specs.Plan.{CanEnter, with_change_entered}
use Rattle.desk_tables.specs.declared.edit_fault.EditFault.{EditFault}
use Rattle.desk_tables.specs.declared.edit_fault.EditFault.TheVariants as edit_fault
use Rattle.desk_tables.specs.declared.plan.TablesPlan.{TablesPlan}
use Rattle.desk_tables.specs.declared.plan.TablesPlan.TheVariants as plan
use Rattle.desk_tables.specs.declared.row_change.RowChange.{RowChange}

-- a new edit that meets none of the refusals 1 to 17, which are tried without memory
pub record PassesValues (t : Lists) (edit : Edit) : Type 0 where
  pub new : kept_number t edit ≡ None
  pub unused : ticket_reused t edit ≡ None
  pub names : first_some (refusals_of_names t edit) ≡ None
  pub values : first_some (refusals_of_values t edit) ≡ None

-- a new edit that meets none of the refusals 1 to 19, with its rows and its ticket
pub record PassesLimits (desk : Desk) (edit : Edit) (change : RowChange) (ticket : TicketRow) (room : Option ℕ) : Type 0 where
  pub new : kept_number desk.lists edit ≡ None
  pub unrefused : refused_by_rows desk.lists edit ≡ None
  pub made : with_change_made desk.lists change ≡ with_edit_made desk.lists edit
  pub leaves : with_change_entered desk.lists change ticket ≡ with_edit_entered desk.lists edit
  pub sums : may_raise_sums edit ≡ true → is_of_sums change ≡ true
  pub number : ticket.number ≡ next_number desk.lists
  pub can_enter : CanEnter desk change ticket room

-- the plan of an edit that is kept, or of one that meets none of the refusals 1 to 19
unfoldable pub IsRowsPlan : Desk → Edit → TablesPlan → Type 0
IsRowsPlan desk edit (plan.Kept number) = kept_number desk.lists edit ≡ Some number
IsRowsPlan desk edit (plan.New change ticket room) = PassesLimits desk edit change ticket room

-- the answer to an edit that has this plan, and of which the rules say this
abbrev pub answer_by : TablesPlan → Option RuleFault → Result TablesPlan EditFault
answer_by plan None = Ok plan
answer_by plan (Some fault) = Err (edit_fault.Rule fault)

-- an edit that isn't kept meets one of the refusals 1 to 19, and this is the first; of want of memory nothing is said
unfoldable pub IsRowsFault : Lists → Edit → EditFault → Type 0
IsRowsFault t edit (edit_fault.Rule fault) = (kept_number t edit ≡ None) × (refused_by_rows t edit ≡ Some fault)
IsRowsFault t edit edit_fault.OutOfMemory = Unit {0}

-- an edit is refused by the first of all rules that it breaks; of want of memory nothing is said
unfoldable pub IsRefusal : Lists → Edit → EditFault → Type 0
IsRefusal t edit (edit_fault.Rule fault) = (step t edit).0 ≡ Err fault
IsRefusal t edit edit_fault.OutOfMemory = Unit {0}
