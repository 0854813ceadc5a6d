use Rattle.desk_engine.proofs.Engines.{kept_engine, new_engine}
use Rattle.desk_engine.proofs.engine.plan_beside.Goals as goal

pub returns-in-Kept-clause-plan : goal.returns-in-Kept-clause-plan
returns-in-Kept-clause-plan g c = kept_engine c.args.tables.now c.args.stored.now c.args.edit.now c.args.rows.now c.in-Kept.number c.in-Kept.is c.requires.rows

pub returns-in_ok-plan-in-New-clause-plan : goal.returns-in_ok-plan-in-New-clause-plan
returns-in_ok-plan-in-New-clause-plan g c =
    new_engine c.args.tables.now c.args.stored.now c.args.edit.now c.args.rows.now c.in-New.change c.in-New.ticket c.in-New.room c.in-New.is c.requires.rows c.in_ok-plan-in-New.ensures.unrefused c.in_ok-plan-in-New.plan c.in_ok-plan-in-New.ensures.plan c.in_ok-plan-in-New.ensures.replaced
