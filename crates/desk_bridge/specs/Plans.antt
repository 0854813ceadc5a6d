-- A plan of an edit's rows, where the bill refuses nothing, is the plan of the edit.
use Rattle.std.specs.Prelude.{◌≡◌, ℕ, Option, None}
use Rattle.desk_model.specs.declared.edit.Edit.{Edit}
use Rattle.desk_model.specs.declared.rows.ticket.TicketRow.{TicketRow}
use Rattle.desk_history.specs.Refused.{refused_by_bill}
use Rattle.desk_tables.specs.Desk.{Desk}
use Rattle.desk_tables.specs.Judged.{IsRowsPlan}
use Rattle.desk_tables.specs.Plan.{IsPlan}
use Rattle.desk_tables.specs.declared.plan.TablesPlan.TheVariants as plan
use Rattle.desk_tables.specs.declared.row_change.RowChange.{RowChange}

-- the plan of an edit that is kept answers and leaves what the edit's step does; so does that of an edit that meets none of the refusals
-- 1 to 19, where it meets none of the refusals 20 to 23 either
pub record RowsPlansStand : Type 0 where
  pub kept : (desk : Desk) (edit : Edit) (number : ℕ) → IsRowsPlan desk edit (plan.Kept number) → IsPlan desk edit (plan.Kept number)
  pub new : (desk : Desk) (edit : Edit) (change : RowChange) (ticket : TicketRow) (room : Option ℕ) → IsRowsPlan desk edit (plan.New change ticket room) →
      refused_by_bill desk.lists edit ≡ None → IsPlan desk edit (plan.New change ticket room)
