-- The plan of a whole engine, and the engine after it.
use Rattle.std.proofs.Common.{◌≡◌, ℕ, true, false, cond, ◌||◌, List, [], Option, Some, None, is_some, refl, sym, ap, ◌∙◌, subst}
use Rattle.std.specs.List.{list_any}
use Rattle.desk_text.specs.Code.{same_code}
use Rattle.desk_model.specs.declared.edit.Edit.{Edit}
use Rattle.desk_model.specs.declared.rows.ticket.TicketRow.{TicketRow}
use Rattle.desk_model.specs.Effect.{with_edit_entered}
use Rattle.desk_model.specs.Forms.{is_edit_in_form}
use Rattle.desk_model.specs.Lists.{Lists}
use Rattle.desk_findings.specs.Reaches.{reaches}
use Rattle.desk_history.specs.Affected.{is_affected, seeds_of_new}
use Rattle.desk_history.specs.Refused.{refused_by_bill}
use Rattle.desk_history.specs.Sound.{Sound}
use Rattle.desk_history.specs.Step.{kept_number}
use Rattle.desk_history.proofs.SoundSteps.{Sound-step}
use Rattle.desk_tables.specs.Desk.{Desk}
use Rattle.desk_tables.specs.Judged.{IsRowsPlan}
use Rattle.desk_tables.specs.Plan as tables
use Rattle.desk_tables.specs.declared.plan.TablesPlan.{TablesPlan}
use Rattle.desk_tables.specs.declared.plan.TablesPlan.TheVariants as plan
use Rattle.desk_tables.specs.declared.row_change.RowChange.{RowChange}
use Rattle.desk_tables.proofs.Accepting.{kept_plan, limits_of, new_plan}
use Rattle.desk_engine.specs.declared.stored.Stored.{Stored}
use Rattle.desk_engine.specs.declared.stored_plan.StoredPlan.{StoredPlan}
use Rattle.desk_engine.specs.Engine.{IsPlanOf, IsWhole}
use Rattle.desk_engine.specs.Planned.{LeavesStored, LeavesStoredOr, ReplacesAffected}
use Rattle.desk_engine.specs.Stored.{IsStoredOf}

-- an edit that is kept affects nothing
kept_affects : (t : Lists) (edit : Edit) (number : ℕ) → kept_number t edit ≡ Some number → (code : List ℕ) → is_affected t edit code ≡ false
unfolding is_affected
kept_affects t edit number kept code = ap (λ o. list_any (λ seed. same_code code seed || reaches (with_edit_entered t edit) code seed) (cond (is_some o) [] (seeds_of_new t edit))) kept

kept_stays : (t : Lists) (number : ℕ) → tables.tables_planned t (plan.Kept number) ≡ t
unfolding tables.tables_planned
kept_stays t number = refl

kept_of : (desk : Desk) (edit : Edit) (number : ℕ) → IsRowsPlan desk edit (plan.Kept number) → kept_number desk.lists edit ≡ Some number
unfolding IsRowsPlan
kept_of desk edit number h = h

pub kept_engine : (desk : Desk) (stored : Stored) (edit : Edit) (all : TablesPlan) (number : ℕ) → all ≡ plan.Kept number → IsRowsPlan desk edit all → IsPlanOf (record { desk = desk; stored = stored }) edit (record { tables = all; stored = None })
kept_engine desk stored edit all number is h = record {
  tables = kept_plan desk edit all number is h;
  stored = ap (tables.tables_planned desk.lists) is ∙ kept_stays desk.lists number;
  replaced = kept_affects desk.lists edit number (kept_of desk edit number (subst (IsRowsPlan desk edit) is h));
}

-- a new edit
leaves_entered : (t : Lists) (change : RowChange) (ticket : TicketRow) (room : Option ℕ) → tables.tables_planned t (plan.New change ticket room) ≡ tables.with_change_entered t change ticket
unfolding tables.tables_planned
leaves_entered t change ticket room = refl

pub new_engine : (desk : Desk) (stored : Stored) (edit : Edit) (all : TablesPlan) (change : RowChange) (ticket : TicketRow) (room : Option ℕ) → all ≡ plan.New change ticket room → IsRowsPlan desk edit all →
    refused_by_bill desk.lists edit ≡ None → (made : StoredPlan) → LeavesStored stored (with_edit_entered desk.lists edit) made → ReplacesAffected stored desk.lists edit (Some made) →
    IsPlanOf (record { desk = desk; stored = stored }) edit (record { tables = all; stored = Some made })
new_engine desk stored edit all change ticket room is h passed made leaves replaced = record {
  tables = new_plan desk edit all change ticket room is h passed;
  stored =
      subst (λ u. LeavesStored stored u made)
      (sym (ap (tables.tables_planned desk.lists) is ∙ leaves_entered desk.lists change ticket room ∙ (limits_of desk edit all change ticket room is h).leaves)) leaves;
  replaced = replaced;
}

-- the engine after a plan
sound_after : (desk : Desk) (edit : Edit) (all : TablesPlan) → Sound desk.lists → is_edit_in_form edit ≡ true → tables.IsPlan desk edit all → Sound (tables.tables_planned desk.lists all)
sound_after desk edit all s form is = subst Sound (ap (λ r. r.1) is.0) (Sound-step desk.lists edit s form)

pub leaves_some : (stored : Stored) (t u : Lists) (some : Option StoredPlan) (made : StoredPlan) → some ≡ Some made → LeavesStoredOr stored t u some → LeavesStored stored u made
leaves_some stored t u some made is h = subst (LeavesStoredOr stored t u) is h

pub leaves_none : (stored : Stored) (t u : Lists) (some : Option StoredPlan) → some ≡ None → LeavesStoredOr stored t u some → u ≡ t
leaves_none stored t u some is h = subst (LeavesStoredOr stored t u) is h

pub whole_after : (desk now : Desk) (left : Stored) (edit : Edit) (all : TablesPlan) → Sound desk.lists → is_edit_in_form edit ≡ true → tables.IsPlan desk edit all → now.lists ≡ tables.tables_planned desk.lists all →
    IsStoredOf (tables.tables_planned desk.lists all) left → IsWhole (record { desk = now; stored = left })
whole_after desk now left edit all s form is lists kept = record {
  sound = subst Sound (sym lists) (sound_after desk edit all s form is);
  stored = subst (λ t. IsStoredOf t left) (sym lists) kept;
}
