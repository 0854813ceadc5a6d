use Rattle.std.proofs.Common.{◌≡◌, ◌+◌, map, take}
use Rattle.desk_graph.specs.Graph.{lines_of_node}
use Rattle.desk_rollup.proofs.rollups.lists_of.Given as goal

abbrev pub invariant-loop-node : goal.invariant-loop-node
invariant-loop-node g l =
    (map (λ list. list.now) l.lists.items ≡ map (lines_of_node (g.B.BillView.graph l.bill).lines) (take l.node-index l.nodes)) × (l.steps ≡ l.initial.steps + l.node-index)
