use Rattle.std.proofs.Common.{arith}
use Rattle.desk_graph.proofs.Lists.{has_line-at}
use Rattle.desk_graph.proofs.chain.first_marked.Goals as goal

pub bounds-marks-line : goal.bounds-marks-line
bounds-marks-line c = c.requires _ (has_line-at c.args.lines.now c.loop-line.line-index (record { node = 0; count = 0 }) (omega arith))
