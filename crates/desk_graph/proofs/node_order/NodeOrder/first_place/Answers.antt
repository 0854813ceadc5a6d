use Rattle.std.proofs.Common.{ap, length, subst, arith}
use Rattle.std.proofs.lemmas.List.{take_all}
use Rattle.desk_graph.specs.Order.{AreBehind}
use Rattle.desk_graph.proofs.Marks.{has_node-at}
use Rattle.desk_graph.proofs.node_order.NodeOrder.first_place.Goals as goal

pub index-requires : goal.index-requires
index-requires c =
    let there = c.requires _ (has_node-at c.args.nodes.now c.loop-node.node-index 0 c.loop-node-test.true) in
    omega (arith, there, c.self.invariant.places_size, c.self.inside.places.ok.0, ap (λ l. length l) c.self.view_is)

pub returns-clause-early : goal.returns-clause-early
returns-clause-early c =
    subst (AreBehind c.loop-node.first c.args.self.now) (take_all c.loop-node.node-index c.args.nodes.now (omega (arith, c.loop-node-test.false))) c.loop-node.invariant.1
