use Rattle.desk_engine.proofs.Answered.{values_right}
use Rattle.desk_engine.proofs.node_values.peek_values.Goals as goal

pub returns-clause-values : goal.returns-clause-values
returns-clause-values g c =
    values_right c.args.tables.now.lists c.requires.sound c.args.stored.now c.node_count.ensures.bill c.requires.stored c.args.code.now c.kept_node-node.result c.peek.result.now c.kept_node-node.ensures.there c.kept_node-node.ensures.label c.peek.ensures.values
