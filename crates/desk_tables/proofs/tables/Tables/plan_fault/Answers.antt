use Rattle.desk_tables.proofs.Accepting.{fault_of, kept_plan, limits_of, plan_of}
use Rattle.desk_tables.proofs.tables.Tables.plan_fault.Goals as goal

pub returns-in-Kept-clause-plan : goal.returns-in-Kept-clause-plan
returns-in-Kept-clause-plan c = λ _. kept_plan c.args.self.now c.args.edit.now c.args.plan.now c.in-Kept.number c.in-Kept.is c.requires.plan

pub returns-in-New-clause-fault : goal.returns-in-New-clause-fault
returns-in-New-clause-fault c =
    let limits = limits_of c.args.self.now c.args.edit.now c.args.plan.now c.in-New.change c.in-New.ticket c.in-New.room c.in-New.is c.requires.plan in
    fault_of c.args.self.now.lists c.args.edit.now limits.new limits.unrefused c.refused_by_bill.result c.refused_by_bill.ensures.fault

pub returns-in-New-clause-plan : goal.returns-in-New-clause-plan
returns-in-New-clause-plan c =
    plan_of c.args.self.now c.args.edit.now c.args.plan.now c.in-New.change c.in-New.ticket c.in-New.room c.in-New.is c.requires.plan c.refused_by_bill.result c.refused_by_bill.ensures.fault
