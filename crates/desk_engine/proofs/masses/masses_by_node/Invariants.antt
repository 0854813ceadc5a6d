use Rattle.std.proofs.Common.{take}
use Rattle.desk_engine.specs.Masses.{AreAllWeighed, AreWeights}
use Rattle.desk_engine.proofs.masses.masses_by_node.Given as goal

abbrev pub invariant-loop-node : goal.invariant-loop-node
invariant-loop-node l = record {
  weights : AreWeights l.bill.labels l.plan l.masses.rows;
  all : AreAllWeighed l.tables.lists l.bill.labels (take l.node-index l.plan.nodes) l.masses.rows;
}
