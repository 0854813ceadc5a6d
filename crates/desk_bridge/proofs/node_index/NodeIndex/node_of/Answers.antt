use Rattle.std.proofs.Common.{◌∙◌}
use Rattle.desk_bridge.proofs.Indexes.{found_by}
use Rattle.desk_bridge.proofs.node_index.NodeIndex.node_of.Goals as goal

pub returns-clause-node : goal.returns-clause-node
returns-clause-node c = λ labels index. c.found.ensures ∙ found_by labels c.args.self.now.rows index c.args.code.now
