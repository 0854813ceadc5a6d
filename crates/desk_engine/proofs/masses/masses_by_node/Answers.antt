use Rattle.std.proofs.Common.{◌≡◌, arith, subst, true}
use Rattle.std.specs.Prelude.{slice_index_or}
use Rattle.desk_graph.specs.Reaches.{has_node}
use Rattle.desk_bridge.proofs.Chains.{has_node-at}
use Rattle.desk_engine.proofs.masses.masses_by_node.Goals as goal

pub weigh_node-requires-clause-there : goal.weigh_node-requires-clause-there
weigh_node-requires-clause-there c =
    c.requires.inside _ (subst (λ nodes. has_node nodes (slice_index_or c.nodes-node-items.result.now c.loop-node.node-index 0) ≡ true) c.nodes-node-items.ensures (has_node-at c.nodes-node-items.result.now c.loop-node.node-index 0 (omega arith)))

pub weigh_node-requires-clause-code : goal.weigh_node-requires-clause-code
weigh_node-requires-clause-code c =
    c.requires.codes _
    (c.requires.inside _ (subst (λ nodes. has_node nodes (slice_index_or c.nodes-node-items.result.now c.loop-node.node-index 0) ≡ true) c.nodes-node-items.ensures (has_node-at c.nodes-node-items.result.now c.loop-node.node-index 0 (omega arith))))
