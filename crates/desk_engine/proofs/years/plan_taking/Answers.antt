use Rattle.desk_engine.proofs.Entries.{takes}
use Rattle.desk_engine.proofs.years.plan_taking.Goals as goal

pub returns : goal.returns
returns c = takes c.args.years.now c.args.year c.args.product c.args.units c.as_slice.ensures.yearly c.requires
