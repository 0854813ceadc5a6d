use Rattle.std.proofs.Common.{subst, sym, ◌<◌, length}
use Rattle.desk_bridge.proofs.Found.{node_of-taken}
use Rattle.desk_bridge.proofs.Indexes.{node_found, node_missing}
use Rattle.desk_bridge.proofs.planning.node_of.Goals as goal

pub returns-clause-node : goal.returns-clause-node
returns-clause-node c = node_found c.args._bill.now.labels c.args.index.now.rows c.requires.index c.args.code.now c.requires.there c.node_of.result c.node_of.ensures.node c.in-Some.node c.in-Some.is

pub returns-clause-there : goal.returns-clause-there
returns-clause-there c =
    subst (λ node. node < length c.args._bill.now.labels)
    (sym (node_found c.args._bill.now.labels c.args.index.now.rows c.requires.index c.args.code.now c.requires.there c.node_of.result c.node_of.ensures.node c.in-Some.node c.in-Some.is))
    (node_of-taken c.args._bill.now.labels c.args.code.now c.requires.there).0

pub unreachable-requires : goal.unreachable-requires
unreachable-requires c = node_missing c.args._bill.now.labels c.args.index.now.rows c.requires.index c.args.code.now c.requires.there c.node_of.result c.node_of.ensures.node c.in_default.is
