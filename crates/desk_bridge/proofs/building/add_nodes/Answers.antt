use Rattle.std.proofs.Common.{◌∙◌, ap}
use Rattle.desk_model.specs.Lists.{nodes_of}
use Rattle.desk_graph.specs.Edits.{is_taken}
use Rattle.desk_bridge.proofs.Filled.{filled_bill, filled_first, filled_index}
use Rattle.desk_bridge.proofs.building.add_nodes.Goals as goal

pub add_codes-requires-clause-filled : goal.add_codes-requires-clause-filled
add_codes-requires-clause-filled c = filled_first c.args.tables.now.lists c.requires.sound.consistent c.nodes.result.now c.in_ok-index.index.rows c.args.bill.now (c.nodes.ensures.nodes ∙ c.in_ok-links.ensures.nodes ∙ ap nodes_of c.lists.ensures) c.in_ok-index.ensures c.requires.start

pub returns-clause-bill : goal.returns-clause-bill
returns-clause-bill c = filled_bill c.args.tables.now.lists c.requires.sound.consistent c.requires.sound.limits c.add_codes-2.new.bill c.node_count.ensures.bill c.add_codes-2.new.index.rows c.add_codes-2.ensures.filled c.nodes-2.result.now (c.nodes-2.ensures.nodes ∙ c.in_ok-links.ensures.nodes ∙ ap nodes_of c.lists.ensures) (is_taken c.add_codes.new.bill.labels) c.add_codes-2.ensures.taken

pub returns-clause-index : goal.returns-clause-index
returns-clause-index c = filled_index c.args.tables.now.lists c.requires.sound.consistent c.requires.sound.limits c.add_codes-2.new.bill c.node_count.ensures.bill c.add_codes-2.new.index.rows c.add_codes-2.ensures.filled c.nodes-2.result.now (c.nodes-2.ensures.nodes ∙ c.in_ok-links.ensures.nodes ∙ ap nodes_of c.lists.ensures) (is_taken c.add_codes.new.bill.labels) c.add_codes-2.ensures.taken
