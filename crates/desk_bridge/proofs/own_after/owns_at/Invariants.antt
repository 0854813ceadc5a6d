use Rattle.std.proofs.Common.{◌≡◌, take}
use Rattle.std.specs.List.{AllByRecursion}
use Rattle.desk_graph.specs.Graph.{label_of}
use Rattle.desk_rollup.specs.Plan.{nodes_of_owns}
use Rattle.desk_bridge.specs.AfterEdit.{IsOwnOf}
use Rattle.desk_bridge.specs.Numbers.{finding_number}
use Rattle.desk_bridge.proofs.own_after.owns_at.Given as goal

abbrev pub invariant-loop-node : goal.invariant-loop-node
invariant-loop-node g l = record {
  these : nodes_of_owns l.owns.items ≡ take l.node-index l.nodes;
  right : AllByRecursion (λ own. IsOwnOf l.lists (finding_number (g.B.BillView.graph l.bill).labels l.names) (label_of l.names) (label_of (g.B.BillView.graph l.bill).labels own.node) own) l.owns.items;
}
