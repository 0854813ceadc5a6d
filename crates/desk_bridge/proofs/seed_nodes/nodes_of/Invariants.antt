use Rattle.std.proofs.Common.{◌≡◌, ◌&&◌, ℕ}
use Rattle.std.specs.Prelude.{nat_lt}
use Rattle.std.specs.List.{list_any}
use Rattle.desk_text.specs.Code.{same_code}
use Rattle.desk_graph.specs.Graph.{label_of}
use Rattle.desk_graph.specs.Reaches.{has_node}
use Rattle.desk_bridge.proofs.seed_nodes.nodes_of.Given as goal

abbrev pub invariant-loop-id : goal.invariant-loop-id
invariant-loop-id l = (node : ℕ) → has_node l.nodes.items node ≡ (nat_lt node l.id && list_any (same_code (label_of l.bill.labels node)) l.codes)
