use Rattle.std.proofs.Common.{◌∙◌, ap, refl, sym}
use Rattle.std.proofs.lemmas.Bool.{both_ways}
use Rattle.desk_graph.specs.Graph.{label_of}
use Rattle.desk_graph.specs.Reaches.{has_node}
use Rattle.desk_bridge.proofs.Built.{on_ok}
use Rattle.desk_bridge.proofs.Indexes.{node_found}
use Rattle.desk_engine.proofs.Weights.{here_weighed, node_there, one_node, stays_weighed, weights_put}
use Rattle.desk_engine.proofs.masses.weigh_product.Goals as goal

pub returns-clause-weights : goal.returns-clause-weights
returns-clause-weights c =
    let found = c.in-Some-rolled.ensures in
    let is = node_found c.args.stored.now.bill.labels c.args.stored.now.index.rows c.requires.stored.of.index c.args.product.now (c.requires.stored.of.bill.numbered.taken c.args.product.now ∙ c.requires.kept) c.node_of.result c.node_of.ensures.node c.in-Some.node c.in-Some.is in
    on_ok c.put.result
    (λ put. weights_put c.args._bill.now.labels c.args.plan.now c.args.masses.now.rows c.put.new.self.rows (record { product = c.args.product.now; mass = c.values.inside.weight }) put found.0 found.1 (ap (label_of c.args._bill.now.labels) (found.2 ∙ is) ∙ (node_there c.args._tables.now.lists c.args.stored.now c.requires.stored c.args._bill.now.labels c.requires.grows.0 c.requires.grows.1 c.args.product.now c.requires.kept).1) (ap (λ values. values.weight) (c.values.view_is ∙ found.3)))
    c.put.ensures.ok

pub returns-clause-stays : goal.returns-clause-stays
returns-clause-stays c = on_ok c.put.result (λ put. stays_weighed c.args._bill.now.labels c.args.plan.now c.args.masses.now.rows c.put.new.self.rows (record { product = c.args.product.now; mass = c.values.inside.weight }) put) c.put.ensures.ok

pub returns-clause-here : goal.returns-clause-here
returns-clause-here c = on_ok c.put.result (λ put node has e. here_weighed c.args._bill.now.labels c.args.plan.now c.args.masses.now.rows c.put.new.self.rows (record { product = c.args.product.now; mass = c.values.inside.weight }) put) c.put.ensures.ok

pub returns-in_default-rolled-clause-here : goal.returns-in_default-rolled-clause-here
returns-in_default-rolled-clause-here c = λ node has e.
    let is = node_found c.args.stored.now.bill.labels c.args.stored.now.index.rows c.requires.stored.of.index c.args.product.now (c.requires.stored.of.bill.numbered.taken c.args.product.now ∙ c.requires.kept) c.node_of.result c.node_of.ensures.node c.in-Some.node c.in-Some.is in
    let same = one_node c.args._tables.now.lists c.args.stored.now c.requires.stored c.args._bill.now.labels c.requires.grows.0 c.requires.grows.1 c.args.product.now c.requires.kept c.args._bill.now c.requires.bill refl node (c.requires.inside node has) e in
    absurd (both_ways (has_node c.args.plan.now.nodes node) (ap (has_node c.args.plan.now.nodes) (same ∙ sym is) ∙ c.in_default-rolled.ensures) has)
