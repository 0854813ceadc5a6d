-- What becomes of an edit: how a refusal is told, which plan an edit that is kept has, and what a plan that was carried out leaves.
use Rattle.std.proofs.Common.{◌≡◌, ◌≢◌, ℕ, Option, Some, None, Ok, Err, is_ok, true, refl, sym, ap, ◌∙◌}
use Rattle.std.specs.Prelude.{Result}
use Rattle.desk_text.specs.Code.{code_cmp}
use Rattle.desk_rows.specs.Rows.{row_of, with_row}
use Rattle.desk_rows.proofs.Lookups.{row_of-with_row}
use Rattle.desk_model.specs.declared.edit.Edit.{Edit}
use Rattle.desk_model.specs.declared.rule_fault.RuleFault.{RuleFault}
use Rattle.desk_model.specs.Lists.{Lists}
use Rattle.desk_model.proofs.Kept.{code_cmp_total}
use Rattle.desk_history.specs.Step.{kept_number, step, step_from}
use Rattle.desk_tables.specs.Desk.{Desk}
use Rattle.desk_tables.specs.Judged.{IsRefusal}
use Rattle.desk_tables.specs.Plan.{CanCommit, IsPlan, plan_number, tables_planned}
use Rattle.desk_tables.specs.declared.edit_fault.EditFault.{EditFault}
use Rattle.desk_tables.specs.declared.edit_fault.EditFault.TheVariants as edit_fault
use Rattle.desk_tables.specs.declared.plan.TablesPlan.{TablesPlan}
use Rattle.desk_tables.specs.declared.plan.TablesPlan.TheVariants as plan
use Rattle.desk_clerk.specs.Faults.{edit_as_submit}
use Rattle.desk_clerk.specs.declared.accepted.Accepted.{Accepted}
use Rattle.desk_clerk.specs.declared.submit_fault.SubmitFault.{SubmitFault}
use Rattle.desk_clerk.specs.declared.submit_fault.SubmitFault.TheVariants as submit_fault

same_rule : (first fault : RuleFault) (m n : ℕ) → submit_fault.Rule first m ≡ submit_fault.Rule fault n → first ≡ fault
same_rule first fault m n e = cc

same_number : (first fault : RuleFault) (m n : ℕ) → submit_fault.Rule first m ≡ submit_fault.Rule fault n → m ≡ n
same_number first fault m n e = cc

not_memory : (fault : RuleFault) (n : ℕ) {G : Type 0} → submit_fault.OutOfMemory ≡ submit_fault.Rule fault n → G
not_memory fault n e = cc

pub handed : {T : Type 0} (fault other : SubmitFault) → ◌≡◌ {A = Result T SubmitFault} (Err fault) (Err other) → fault ≡ other
handed fault other e = cc

-- the rule that is told is the one that the edit breaks
pub rule_told : (first : EditFault) (told : SubmitFault) (t : Lists) (edit : Edit) (m : ℕ) → told ≡ edit_as_submit first m → IsRefusal t edit first
    → (fault : RuleFault) (n : ℕ) → ◌≡◌ {A = Result Accepted SubmitFault} (Err told) (Err (submit_fault.Rule fault n)) → ((step t edit).0 ≡ Err fault) × (n ≡ m)
unfolding IsRefusal
rule_told (edit_fault.Rule first) told t edit m is refused fault n e =
    let same = sym is ∙ handed told (submit_fault.Rule fault n) e in
    (refused ∙ ap (λ f. Err f) (same_rule first fault m n same), sym (same_number first fault m n same))
rule_told edit_fault.OutOfMemory told t edit m is refused fault n e = not_memory fault n (sym is ∙ handed told (submit_fault.Rule fault n) e)

-- a fault that isn't the keeper's
pub not_failed : (kept : Result (Unit {0}) SubmitFault) (fault : SubmitFault) → kept ≡ Err fault → ◌≢◌ {A = Result Accepted SubmitFault} (Err fault) (Err submit_fault.KeeperFault) → kept ≢ Err submit_fault.KeeperFault
not_failed kept fault is other e = other (ap (λ f. Err f) (handed fault submit_fault.KeeperFault (sym is ∙ e)))

kept_step : (t : Lists) (edit : Edit) (n : ℕ) → kept_number t edit ≡ Some n → (step t edit).1 ≡ t
unfolding step
kept_step t edit n kept = ap (λ number. (step_from t edit number).1) kept

none_some : {X : Type 0} {x : X} {G : Type 0} → None ≡ Some x → G
none_some e = cc

-- the plan of an edit that is kept is to change nothing
pub kept_plan : (desk : Desk) (edit : Edit) (made : TablesPlan) (n : ℕ) → IsPlan desk edit made → kept_number desk.lists edit ≡ Some n → (m : ℕ) × (made ≡ plan.Kept m)
unfolding tables_planned CanCommit
kept_plan desk edit (plan.Kept m) n is kept = (m, refl)
kept_plan desk edit (plan.New change ticket room) n is kept =
    let tickets : desk.lists.tickets ≡ with_row (λ row. row.code) code_cmp ticket desk.lists.tickets = ap (λ t. t.tickets) (sym (kept_step desk.lists edit n kept) ∙ ap (λ done. done.1) is.0) in
    none_some {x = ticket}
    (sym is.1.ticket_is_new ∙ ap (row_of (λ row. row.code) code_cmp ticket.code) tickets ∙ row_of-with_row (λ row. row.code) code_cmp code_cmp_total ticket desk.lists.tickets)

ok_err : (n : ℕ) (fault : RuleFault) {G : Type 0} → ◌≡◌ {A = Result ℕ RuleFault} (Ok n) (Err fault) → G
ok_err n fault e = cc

-- an edit that has a plan meets no refusal
pub not_refused : (desk : Desk) (edit : Edit) (made : TablesPlan) (fault : RuleFault) {G : Type 0} → IsPlan desk edit made → (step desk.lists edit).0 ≡ Err fault → G
not_refused desk edit made fault is refused = ok_err (plan_number made) fault (sym (ap (λ done. done.0) is.0) ∙ refused)

-- an edit whose plan changes something is new, and meets no refusal
module _ (desk : Desk) (edit : Edit) (made : TablesPlan) (is : IsPlan desk edit made) (changes : (n : ℕ) → made ≡ plan.Kept n → ⊥) where
  is_new : (found : Option ℕ) → kept_number desk.lists edit ≡ found → kept_number desk.lists edit ≡ None
  is_new None e = e
  is_new (Some n) e =
      let kept = kept_plan desk edit made n is e in
      absurd (changes kept.0 kept.1)

  pub asked_only : (kept_number desk.lists edit ≡ None) × (is_ok (step desk.lists edit).0 ≡ true)
  asked_only = (is_new (kept_number desk.lists edit) refl, ap (λ done. is_ok done.0) is.0)
