use Rattle.std.proofs.Common.{◌≡◌, ◌∙◌, ap, map, subst, sym}
use Rattle.desk_model.specs.Effect.{with_edit_entered}
use Rattle.desk_graph.specs.Graph.{label_of}
use Rattle.desk_graph.specs.Reaches.{has_node}
use Rattle.desk_bridge.specs.Bridge.{IsBillOf}
use Rattle.desk_bridge.specs.Planning.{cycle_by}
use Rattle.desk_bridge.proofs.Chains.{closes_is, cycle_there, labels_are_codes}
use Rattle.desk_bridge.proofs.Refuses.{passes, refuses}
use Rattle.desk_bridge.proofs.Takes.{taken}
use Rattle.desk_bridge.proofs.judging.plan_bill.Goals as goal

pub plan_edit-requires-clause-can : goal.plan_edit-requires-clause-can
plan_edit-requires-clause-can c = (taken c.args.tables.now.lists c.requires.sound.consistent c.args.bill.now c.node_count.ensures.bill c.requires.bill c.args.edit.now c.in_form.ensures c.requires.new c.requires.rows).can

pub codes_of-requires-clause-there : goal.codes_of-requires-clause-there
codes_of-requires-clause-there c = λ node has.
    let takes = taken c.args.tables.now.lists c.requires.sound.consistent c.args.bill.now c.node_count.ensures.bill c.requires.bill c.args.edit.now c.in_form.ensures c.requires.new c.requires.rows in
    cycle_there c.args.bill.now c.node_count.ensures.bill c.args.edit.now takes.can.ends c.in-Err-Closes.chain
    (closes_is (cycle_by c.args.bill.now c.args.edit.now) c.in-Err-Closes.field-0 c.in-Err-Closes.chain c.in-Err-Closes.field-0-is c.in-Err-Closes.ensures.closes) node (subst (λ nodes. has_node nodes node ≡ Rattle.std.proofs.Common.true) c.as_slice.ensures has)

pub codes_of-requires-clause-codes : goal.codes_of-requires-clause-codes
codes_of-requires-clause-codes c = labels_are_codes c.args.tables.now.lists c.requires.sound.consistent c.args.bill.now c.requires.bill

pub returns-in-Ok-clause-passes : goal.returns-in-Ok-clause-passes
returns-in-Ok-clause-passes c =
    let takes = taken c.args.tables.now.lists c.requires.sound.consistent c.args.bill.now c.node_count.ensures.bill c.requires.bill c.args.edit.now c.in_form.ensures c.requires.new c.requires.rows in
    passes c.args.tables.now.lists c.args.edit.now c.args.bill.now takes c.requires.new c.requires.rows c.in_form.ensures c.in-Ok.ensures.opens

pub returns-in-Ok-clause-of : goal.returns-in-Ok-clause-of
returns-in-Ok-clause-of c =
    let takes = taken c.args.tables.now.lists c.requires.sound.consistent c.args.bill.now c.node_count.ensures.bill c.requires.bill c.args.edit.now c.in_form.ensures c.requires.new c.requires.rows in
    subst (IsBillOf (with_edit_entered c.args.tables.now.lists c.args.edit.now)) (sym c.in-Ok.ensures.bill) (takes.stays c.in-Ok.ensures.opens)

pub returns-in_ok-chain-in-Err-Closes-clause-fault : goal.returns-in_ok-chain-in-Err-Closes-clause-fault
unfolding Rattle.desk_tables.specs.Judged.IsRefusal
returns-in_ok-chain-in-Err-Closes-clause-fault c =
    let takes = taken c.args.tables.now.lists c.requires.sound.consistent c.args.bill.now c.node_count.ensures.bill c.requires.bill c.args.edit.now c.in_form.ensures c.requires.new c.requires.rows in
    refuses c.args.tables.now.lists c.args.edit.now c.args.bill.now takes c.requires.new c.requires.rows c.in-Err-Closes.chain c.in_ok-chain-in-Err-Closes.chain
    (closes_is (cycle_by c.args.bill.now c.args.edit.now) c.in-Err-Closes.field-0 c.in-Err-Closes.chain c.in-Err-Closes.field-0-is c.in-Err-Closes.ensures.closes) (c.in_ok-chain-in-Err-Closes.ensures ∙ ap (map (label_of c.args.bill.now.labels)) c.as_slice.ensures)
