use Rattle.std.proofs.Common.{◌≡◌, map, take}
use Rattle.desk_graph.specs.Graph.{label_of}
use Rattle.desk_bridge.proofs.judging.codes_of.Given as goal

abbrev pub invariant-loop-node : goal.invariant-loop-node
invariant-loop-node l = l.codes.items ≡ map (label_of l.bill.labels) (take l.node-index l.nodes)
