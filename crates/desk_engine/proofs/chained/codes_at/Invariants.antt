use Rattle.std.proofs.Common.{◌≡◌, map, take}
use Rattle.desk_graph.specs.Graph.{label_of}
use Rattle.desk_engine.proofs.chained.codes_at.Given as goal

abbrev pub invariant-loop-node : goal.invariant-loop-node
invariant-loop-node l = l.codes.items ≡ map (label_of l.stored.bill.labels) (take l.node-index l.nodes)
