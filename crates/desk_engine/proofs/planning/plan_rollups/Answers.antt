use Rattle.std.proofs.Common.{◌∙◌, ◌<◌, Err, ap, length, sym, subst}
use Rattle.desk_graph.specs.Graph.{label_of}
use Rattle.desk_rollup.specs.Plan.{IsRefused}
use Rattle.desk_rollup.specs.Values.{own_with}
use Rattle.desk_model.specs.declared.rule_fault.RuleFault.TheVariants.{TotalTooLarge}
use Rattle.desk_model.specs.Effect.{with_edit_entered}
use Rattle.desk_bridge.specs.Bridge.{IsBillOf}
use Rattle.desk_bridge.specs.OwnAfter.{AreOwnAfter}
use Rattle.desk_engine.proofs.Planned.{can_prepare, few_steps, planned_codes, planned_labels, refused_large, refused_many, rolled_for}
use Rattle.desk_engine.proofs.planning.plan_rollups.Goals as goal

pub owns_after-requires-clause-grows : goal.owns_after-requires-clause-grows
owns_after-requires-clause-grows g c = (c.args.plan.now.labels, ap (λ bill. bill.labels) c.new-after.ensures ∙ planned_labels c.args.plan.now c.args.stored.now.bill)

pub prepare-requires : goal.prepare-requires
prepare-requires g c =
    can_prepare c.args.new.now.tables.now.lists c.args.new.now.edit.now c.requires.sound c.requires.passes c.args.stored.now c.requires.stored c.node_count.ensures.bill c.args.plan.now c.new-after.result c.new-after.ensures c.node_count-2.ensures.bill c.args.names.now c.requires.of c.requires.names
    c.as_slice.result.now (subst (AreOwnAfter c.args.new.now.tables.now.lists c.args.new.now.edit.now c.new-after.result c.args.names.now) (sym c.as_slice.ensures.value) c.in_ok-owns.ensures)

pub returns-in-Ok-clause-rolled : goal.returns-in-Ok-clause-rolled
returns-in-Ok-clause-rolled g c =
    rolled_for c.args.new.now.tables.now.lists c.args.new.now.edit.now c.requires.sound c.requires.passes c.args.stored.now c.requires.stored c.node_count.ensures.bill c.args.plan.now c.new-after.result c.new-after.ensures c.node_count-2.ensures.bill c.args.names.now c.requires.of c.requires.names
    c.as_slice.result.now (subst (AreOwnAfter c.args.new.now.tables.now.lists c.args.new.now.edit.now c.new-after.result c.args.names.now) (sym c.as_slice.ensures.value) c.in_ok-owns.ensures)
    c.in-Ok.rollups c.in-Ok.ensures.plan c.in-Ok.ensures.accepted

pub code_at-part-requires-clause-code : goal.code_at-part-requires-clause-code
code_at-part-requires-clause-code g c =
    planned_codes c.args.new.now.tables.now.lists c.args.new.now.edit.now c.requires.sound c.requires.passes c.new-after.result (subst (IsBillOf (with_edit_entered c.args.new.now.tables.now.lists c.args.new.now.edit.now)) (sym c.new-after.ensures) c.requires.of) _
    (subst (λ node. node < length c.new-after.result.labels) (sym c.in-Err-WeightTooLarge.node-is)
    (subst (IsRefused c.new-after.result (own_with c.as_slice.result.now c.args.stored.now.rollups.owns)) c.in-Err-WeightTooLarge.field-0-is c.in-Err-WeightTooLarge.ensures.refused).there)

pub returns-in-Err-WeightTooLarge-clause-fault : goal.returns-in-Err-WeightTooLarge-clause-fault
unfolding Rattle.desk_tables.specs.Judged.IsRefusal
returns-in-Err-WeightTooLarge-clause-fault g c =
    refused_large c.args.new.now.tables.now.lists c.args.new.now.edit.now c.requires.sound c.requires.passes c.args.stored.now c.requires.stored c.node_count.ensures.bill c.args.plan.now c.new-after.result c.new-after.ensures c.node_count-2.ensures.bill c.args.names.now c.requires.of c.requires.names
    c.as_slice.result.now (subst (AreOwnAfter c.args.new.now.tables.now.lists c.args.new.now.edit.now c.new-after.result c.args.names.now) (sym c.as_slice.ensures.value) c.in_ok-owns.ensures)
    c.in-Err-WeightTooLarge.node (subst (IsRefused c.new-after.result (own_with c.as_slice.result.now c.args.stored.now.rollups.owns)) c.in-Err-WeightTooLarge.field-0-is c.in-Err-WeightTooLarge.ensures.refused)
    ∙ ap (λ part. Err (TotalTooLarge part)) (sym (c.code_at-part.ensures ∙ ap (label_of c.new-after.result.labels) c.in-Err-WeightTooLarge.node-is))

pub returns-in-Err-MarksFull-clause-fault : goal.returns-in-Err-MarksFull-clause-fault
unfolding Rattle.desk_tables.specs.Judged.IsRefusal
returns-in-Err-MarksFull-clause-fault g c =
    let refused = subst (IsRefused c.new-after.result (own_with c.as_slice.result.now c.args.stored.now.rollups.owns)) c.in-Err-MarksFull.field-0-is c.in-Err-MarksFull.ensures.refused in
    refused_many c.args.new.now.tables.now.lists c.args.new.now.edit.now c.requires.sound c.requires.passes c.args.stored.now c.requires.stored c.node_count.ensures.bill c.args.plan.now c.new-after.result c.new-after.ensures c.node_count-2.ensures.bill c.args.names.now c.requires.of c.requires.names
    c.as_slice.result.now (subst (AreOwnAfter c.args.new.now.tables.now.lists c.args.new.now.edit.now c.new-after.result c.args.names.now) (sym c.as_slice.ensures.value) c.in_ok-owns.ensures)
    refused.0 refused.1

pub returns-in-Ok-clause-steps : goal.returns-in-Ok-clause-steps
returns-in-Ok-clause-steps g c =
    few_steps c.args.new.now.tables.now.lists c.args.new.now.edit.now c.requires.sound c.requires.passes c.args.stored.now c.requires.stored c.node_count.ensures.bill c.args.plan.now c.new-after.result c.new-after.ensures c.node_count-2.ensures.bill c.args.names.now c.requires.of c.requires.names
    c.as_slice.result.now (subst (AreOwnAfter c.args.new.now.tables.now.lists c.args.new.now.edit.now c.new-after.result c.args.names.now) (sym c.as_slice.ensures.value) c.in_ok-owns.ensures)
    _ _ c.prepare.ensures.few_steps

pub returns-in-Err-WeightTooLarge-clause-steps : goal.returns-in-Err-WeightTooLarge-clause-steps
returns-in-Err-WeightTooLarge-clause-steps g c =
    few_steps c.args.new.now.tables.now.lists c.args.new.now.edit.now c.requires.sound c.requires.passes c.args.stored.now c.requires.stored c.node_count.ensures.bill c.args.plan.now c.new-after.result c.new-after.ensures c.node_count-2.ensures.bill c.args.names.now c.requires.of c.requires.names
    c.as_slice.result.now (subst (AreOwnAfter c.args.new.now.tables.now.lists c.args.new.now.edit.now c.new-after.result c.args.names.now) (sym c.as_slice.ensures.value) c.in_ok-owns.ensures)
    _ _ c.prepare.ensures.few_steps

pub returns-in-Err-MarksFull-clause-steps : goal.returns-in-Err-MarksFull-clause-steps
returns-in-Err-MarksFull-clause-steps g c =
    few_steps c.args.new.now.tables.now.lists c.args.new.now.edit.now c.requires.sound c.requires.passes c.args.stored.now c.requires.stored c.node_count.ensures.bill c.args.plan.now c.new-after.result c.new-after.ensures c.node_count-2.ensures.bill c.args.names.now c.requires.of c.requires.names
    c.as_slice.result.now (subst (AreOwnAfter c.args.new.now.tables.now.lists c.args.new.now.edit.now c.new-after.result c.args.names.now) (sym c.as_slice.ensures.value) c.in_ok-owns.ensures)
    _ _ c.prepare.ensures.few_steps

pub returns-clause-steps : goal.returns-clause-steps
returns-clause-steps g c =
    few_steps c.args.new.now.tables.now.lists c.args.new.now.edit.now c.requires.sound c.requires.passes c.args.stored.now c.requires.stored c.node_count.ensures.bill c.args.plan.now c.new-after.result c.new-after.ensures c.node_count-2.ensures.bill c.args.names.now c.requires.of c.requires.names
    c.as_slice.result.now (subst (AreOwnAfter c.args.new.now.tables.now.lists c.args.new.now.edit.now c.new-after.result c.args.names.now) (sym c.as_slice.ensures.value) c.in_ok-owns.ensures)
    _ _ c.prepare.ensures.few_steps
