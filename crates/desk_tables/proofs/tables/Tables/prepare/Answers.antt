use Rattle.desk_tables.proofs.Accepting.{planned_so, refusal_of, refused_so}
use Rattle.desk_tables.proofs.tables.Tables.prepare.Goals as goal

pub returns-in-Err-clause-fault : goal.returns-in-Err-clause-fault
returns-in-Err-clause-fault c = refusal_of c.args.self.now.lists c.args.edit.now c.in-Err.fault c.in-Err.ensures.fault

pub returns-clause-plan : goal.returns-clause-plan
returns-clause-plan c =
    planned_so c.args.self.now c.args.edit.now c.in-Ok.plan c.in_ok-fault.fault c.unless_refused.result c.unless_refused.ensures c.in_ok-fault.ensures.plan

pub returns-clause-fault : goal.returns-clause-fault
returns-clause-fault c =
    refused_so c.args.self.now.lists c.args.edit.now c.in-Ok.plan c.in_ok-fault.fault c.unless_refused.result c.unless_refused.ensures c.in_ok-fault.ensures.fault
