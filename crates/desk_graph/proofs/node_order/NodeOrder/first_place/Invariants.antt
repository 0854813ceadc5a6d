use Rattle.std.proofs.Common.{◌≤◌, length, take}
use Rattle.desk_graph.specs.Order.{AreBehind}
use Rattle.desk_graph.proofs.node_order.NodeOrder.first_place.Given as goal

abbrev pub invariant-loop-node : goal.invariant-loop-node
invariant-loop-node l = (l.first ≤ length l.self) × AreBehind l.first l.self (take l.node-index l.nodes)
