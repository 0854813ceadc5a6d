use Rattle.std.proofs.Common.{subst}
use Rattle.desk_tables.specs.Judged.{IsRefusal}
use Rattle.desk_tables.proofs.Accepting.{refusal_of}
use Rattle.desk_engine.specs.Engine.{lists_of}
use Rattle.desk_engine.proofs.engine.Engine.prepare.Goals as goal

pub returns-in-Err-clause-fault : goal.returns-in-Err-clause-fault
returns-in-Err-clause-fault g c =
    subst (λ engine. IsRefusal (lists_of engine) c.args.edit.now c.in-Err.fault) c.self.view_is (refusal_of c.self.inside.tables.lists c.args.edit.now c.in-Err.fault c.in-Err.ensures.fault)
