use Rattle.std.proofs.Common.{sym, subst, length, ◌≤◌, ◌∙◌, ap}
use Rattle.desk_graph.specs.Edits.{with_node}
use Rattle.desk_bridge.specs.Building.{IsFilled}
use Rattle.desk_bridge.specs.Index.{index_with}
use Rattle.desk_bridge.proofs.Filled.{filled_more, room_for_free}
use Rattle.desk_bridge.proofs.Plans.{code-fits, code-some}
use Rattle.desk_bridge.proofs.building.add_free_code.Goals as goal

pub add_new_node-node-requires-clause-some : goal.add_new_node-node-requires-clause-some
add_new_node-node-requires-clause-some c = subst (λ b. 1 ≤ length b) (sym c.as_bytes.ensures.value) (code-some c.args.code.now c.as_bytes.ensures.form)

pub add_new_node-node-requires-clause-fits : goal.add_new_node-node-requires-clause-fits
add_new_node-node-requires-clause-fits c = subst (λ b. length b ≤ 40) (sym c.as_bytes.ensures.value) (code-fits c.args.code.now c.as_bytes.ensures.form)

pub add_new_node-node-requires-clause-room : goal.add_new_node-node-requires-clause-room
add_new_node-node-requires-clause-room c = room_for_free c.args._tables.now.lists c.requires.sound.consistent c.args.bill.now c.node_count.ensures.bill c.requires.filled.kept c.requires.sound.limits c.args.code.now c.requires.kept c.requires.free

pub returns-clause-filled : goal.returns-clause-filled
returns-clause-filled c =
    let bill = c.add_new_node-node.ensures.bill ∙ ap (λ label. with_node label c.args.bill.now) c.as_bytes.ensures.value in
    let index = c.set.ensures ∙ ap (λ node. index_with c.args.code.now node c.args.index.now.rows) c.add_new_node-node.ensures.answer in
    subst (λ g. IsFilled c.args._tables.now.lists g c.set.new.self.rows) (sym bill)
    (subst (IsFilled c.args._tables.now.lists (with_node c.args.code.now c.args.bill.now)) (sym index)
    (filled_more c.args._tables.now.lists c.requires.sound.consistent c.args.bill.now c.args.index.now.rows c.args.code.now c.requires.kept c.requires.free c.requires.filled))
