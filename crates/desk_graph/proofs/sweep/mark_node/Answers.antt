use Rattle.std.proofs.Common.{set, true}
use Rattle.desk_graph.proofs.Marks.{mark_of-set, marks_none, marks_one}
use Rattle.desk_graph.proofs.sweep.mark_node.Goals as goal

pub returns-then-marks-node-clause-more : goal.returns-then-marks-node-clause-more
returns-then-marks-node-clause-more c = marks_none c.args.marks.now

pub returns-clause-more : goal.returns-clause-more
returns-clause-more c = marks_one c.args.marks.now (set c.args.marks.now c.args.node true) c.args.node (λ node. mark_of-set c.args.marks.now c.args.node node c.requires)
