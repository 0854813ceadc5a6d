use Rattle.std.proofs.Common.{◌≡◌, ◌++◌, not, drop, filter}
use Rattle.desk_graph.specs.Graph.{label_of}
use Rattle.desk_bridge.specs.OwnAfter.{stays_assembly}
use Rattle.desk_bridge.proofs.own_after.renewed_among.Given as goal

abbrev pub invariant-loop-node : goal.invariant-loop-node
invariant-loop-node l =
    l.renewed.items ++ filter (λ node. not (stays_assembly l.tables.lists l.edit (label_of l.bill.labels node))) (drop l.node-index l.nodes) ≡ filter (λ node. not (stays_assembly l.tables.lists l.edit (label_of l.bill.labels node))) l.nodes
