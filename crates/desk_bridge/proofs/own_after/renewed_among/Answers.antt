use Rattle.std.proofs.Common.{arith}
use Rattle.desk_bridge.proofs.Chains.{has_node-at}
use Rattle.desk_bridge.proofs.own_after.renewed_among.Goals as goal

pub code_at-requires-clause-there : goal.code_at-requires-clause-there
code_at-requires-clause-there c = c.requires.inside _ (has_node-at c.args.nodes.now c.loop-node.node-index 0 (omega arith))

pub code_at-requires-clause-code : goal.code_at-requires-clause-code
code_at-requires-clause-code c = c.requires.codes _ (c.requires.inside _ (has_node-at c.args.nodes.now c.loop-node.node-index 0 (omega arith)))
