-- What an edit that has a plan, or that was refused, leaves.
use Rattle.std.proofs.Common.{◌≡◌, Err, sym, subst, ◌∙◌}
use Rattle.desk_engine.specs.Engine.{IsPlanOf}
use Rattle.desk_history.specs.Step.{step}
use Rattle.desk_clerk.specs.Clerk.{tables_of}
use Rattle.desk_clerk.proofs.Submitted.{not_refused, rule_told}
use Rattle.desk_clerk.proofs.stored_desk.StoredDesk.accept.Goals as goal

pub carry_out-requires : goal.carry_out-requires
carry_out-requires g c = subst (λ desk. IsPlanOf desk.engine c.args.edit.now c.in-Ok.plan) c.self.view_is c.in-Ok.ensures.plan

pub returns-clause-rule : goal.returns-clause-rule
returns-clause-rule g c = λ fault n e. absurd (c.carry_out.ensures.no_rule fault n e)

pub returns-clause-refused : goal.returns-clause-refused
returns-clause-refused g c = λ fault e.
    not_refused c.self.inside.engine.desk c.args.edit.now c.in-Ok.plan.tables fault c.in-Ok.ensures.plan.tables
    (subst (λ desk. (step (tables_of desk) c.args.edit.now).0 ≡ Err fault) (sym c.self.view_is) e)

pub returns-in-Err-clause-rule : goal.returns-in-Err-clause-rule
returns-in-Err-clause-rule g c = λ fault n e.
    let told = rule_told c.in-Err.fault c.refusal.result c.self.inside.engine.desk.lists c.args.edit.now c.number.result c.refusal.ensures c.in-Err.ensures.fault fault n e in
    (subst (λ desk. (step (tables_of desk) c.args.edit.now).0 ≡ Err fault) c.self.view_is told.0, told.1 ∙ c.number.ensures)
