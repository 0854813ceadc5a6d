use Rattle.desk_bridge.proofs.LinesAfter.{run_is}
use Rattle.desk_bridge.proofs.lines_after.lines_among.Goals as goal

pub returns : goal.returns
returns c = run_is c.args.lines.now c.requires c.args.code.now c.run_of.result.now c.run_of.ensures
