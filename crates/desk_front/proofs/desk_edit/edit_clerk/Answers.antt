-- An edit that a rule refuses is taken in, and adds nothing.
use Rattle.std.proofs.Common.{◌≡◌, ◌≢◌, ℕ, Err, Result, ap}
use Rattle.desk_clerk.specs.Clerk.{current_tables}
use Rattle.desk_clerk.specs.declared.accepted.Accepted.{Accepted}
use Rattle.desk_clerk.specs.declared.submit_fault.SubmitFault.{SubmitFault}
use Rattle.desk_clerk.specs.declared.submit_fault.SubmitFault.TheVariants as fault
use Rattle.desk_model.specs.declared.rule_fault.RuleFault.{RuleFault}
use Rattle.desk_front.proofs.Answering.{taken_refused}
use Rattle.desk_front.proofs.desk_edit.edit_clerk.Goals as goal

rule_not_memory : (x : SubmitFault) (cause : RuleFault) (n : ℕ) → x ≡ fault.Rule cause n → ◌≢◌ {A = Result Accepted SubmitFault} (Err x) (Err fault.OutOfMemory)
rule_not_memory x cause n e h = cc

pub returns-in-Ok-push_refused-clause-taken_in : goal.returns-in-Ok-push_refused-clause-taken_in
returns-in-Ok-push_refused-clause-taken_in g c =
    let stays = c.in-Err-Rule.ensures.memory (rule_not_memory c.in-Err-Rule.field-0 c.in-Err-Rule.fault c.in-Err-Rule.whole c.in-Err-Rule.field-0-is) in
    let told = c.in-Err-Rule.ensures.rule c.in-Err-Rule.fault c.in-Err-Rule.whole (ap Err c.in-Err-Rule.field-0-is) in
    taken_refused c.args.clerk.now.accepted c.submit.new.self.accepted (current_tables c.args.clerk.now) (current_tables c.submit.new.self) c.args.edit c.in-Err-Rule.fault told.0 stays.0 stays.1
