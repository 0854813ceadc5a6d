use Rattle.std.proofs.Common.{◌<◌, ◌∙◌, ap, length, subst, sym}
use Rattle.desk_graph.specs.Graph.{label_of}
use Rattle.desk_bridge.proofs.Found.{node_of-kept}
use Rattle.desk_bridge.proofs.Indexes.{node_found}
use Rattle.desk_engine.proofs.node_values.kept_node.Goals as goal

pub returns-clause-there : goal.returns-clause-there
returns-clause-there c =
    let is = node_found c.args.stored.now.bill.labels c.args.stored.now.index.rows c.requires.stored.of.index c.args.code.now (c.requires.stored.of.bill.numbered.taken c.args.code.now ∙ c.requires.kept) c.node_of.result c.node_of.ensures.node c.in-Some.node c.in-Some.is in
    subst (λ node. node < length c.args.stored.now.bill.labels) (sym is) (node_of-kept c.args._tables.now.lists c.args.stored.now.bill.labels c.requires.stored.of.bill.numbered c.args.code.now c.requires.kept).0

pub returns-clause-label : goal.returns-clause-label
returns-clause-label c =
    let is = node_found c.args.stored.now.bill.labels c.args.stored.now.index.rows c.requires.stored.of.index c.args.code.now (c.requires.stored.of.bill.numbered.taken c.args.code.now ∙ c.requires.kept) c.node_of.result c.node_of.ensures.node c.in-Some.node c.in-Some.is in
    ap (label_of c.args.stored.now.bill.labels) is ∙ (node_of-kept c.args._tables.now.lists c.args.stored.now.bill.labels c.requires.stored.of.bill.numbered c.args.code.now c.requires.kept).1
