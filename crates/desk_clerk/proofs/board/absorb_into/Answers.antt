-- The plan that is carried out is the edit's, and a refused edit leaves the tables as they are.
use Rattle.std.proofs.Common.{◌≡◌, Err, subst, sym}
use Rattle.desk_history.specs.Step.{step}
use Rattle.desk_history.proofs.Steps.{refused-leaves}
use Rattle.desk_model.specs.Lists.{Lists}
use Rattle.desk_model.specs.declared.edit.Edit.{Edit}
use Rattle.desk_model.specs.declared.rule_fault.RuleFault.{RuleFault}
use Rattle.desk_tables.specs.Judged.{IsRefusal}
use Rattle.desk_tables.specs.declared.edit_fault.EditFault.{EditFault}
use Rattle.desk_tables.specs.declared.edit_fault.EditFault.TheVariants as edit_fault
use Rattle.desk_clerk.proofs.board.absorb_into.Goals as goal

pub commit-requires : goal.commit-requires
commit-requires c = (c.args.entry.now, c.in_form.ensures, c.in-Ok.ensures.plan)

-- an edit that a rule refuses leaves the tables
leaves : (t : Lists) (edit : Edit) (fault : EditFault) (rule : RuleFault) → fault ≡ edit_fault.Rule rule → IsRefusal t edit fault → t ≡ (step t edit).1
unfolding IsRefusal
leaves t edit (edit_fault.Rule first) rule e told = sym (refused-leaves t edit first told)
leaves t edit edit_fault.OutOfMemory rule e told = cc

pub returns-in-Err-Rule-clause-ok : goal.returns-in-Err-Rule-clause-ok
returns-in-Err-Rule-clause-ok c = leaves _ _ c.in-Err-Rule.field-0 c.in-Err-Rule.field-0-0 c.in-Err-Rule.field-0-is c.in-Err-Rule.ensures.fault
