use Rattle.std.proofs.Common.{◌∙◌}
use Rattle.desk_model.specs.Effect.{with_edit_entered}
use Rattle.desk_history.proofs.SoundSteps.{IsConsistent-entered}
use Rattle.desk_bridge.proofs.Chains.{labels_are_codes}
use Rattle.desk_bridge.proofs.OwnsAfter.{consistent_after, few_after, named_after, nodes_inside, own_after, own_at_after, renewed_inside, seeds_inside}
use Rattle.desk_bridge.proofs.OwnsAt.{if_ok}
use Rattle.desk_bridge.proofs.own_after.owns_after.Goals as goal

pub affected-requires : goal.affected-requires
affected-requires c =
    seeds_inside c.args.new.now.tables.now.lists c.args.new.now.edit.now c.requires.sound c.requires.passes c.args.bill.now c.node_count.ensures.bill c.requires.of c.as_slice.result.now (c.as_slice.ensures.value ∙ c.in_ok-codes.ensures)
    c.in_ok-seeds.seeds.items c.as_slice-2.result.now c.as_slice-2.ensures.value c.in_ok-seeds.ensures

pub owns_at-requires-clause-consistent : goal.owns_at-requires-clause-consistent
owns_at-requires-clause-consistent c = consistent_after c.args.new.now.tables.now.lists c.args.new.now.edit.now c.requires.sound c.requires.passes c.args.new.now.change.now c.requires.made _ c.new-lists.ensures

pub owns_at-requires-clause-few : goal.owns_at-requires-clause-few
owns_at-requires-clause-few c = few_after c.args.new.now.tables.now.lists c.args.new.now.edit.now c.requires.sound c.requires.passes c.args.new.now.change.now c.requires.made _ c.new-lists.ensures

pub owns_at-requires-clause-named : goal.owns_at-requires-clause-named
owns_at-requires-clause-named c = named_after c.args.new.now.tables.now.lists c.args.new.now.edit.now c.requires.sound c.requires.passes c.args.new.now.change.now c.requires.made _ c.new-lists.ensures c.args.names.now c.requires.named

pub owns_at-requires-clause-codes : goal.owns_at-requires-clause-codes
owns_at-requires-clause-codes c =
    labels_are_codes (with_edit_entered c.args.new.now.tables.now.lists c.args.new.now.edit.now) (IsConsistent-entered c.args.new.now.tables.now.lists c.args.new.now.edit.now c.requires.sound.consistent c.requires.passes) c.args.bill.now c.requires.of

pub owns_at-requires-clause-inside : goal.owns_at-requires-clause-inside
owns_at-requires-clause-inside c =
    renewed_inside c.args.new.now.tables.now.lists c.args.new.now.edit.now c.requires.sound c.requires.passes c.args.bill.now c.node_count.ensures.bill c.requires.of c.as_slice.result.now (c.as_slice.ensures.value ∙ c.in_ok-codes.ensures)
    c.in_ok-seeds.seeds.items c.as_slice-2.result.now c.as_slice-2.ensures.value c.in_ok-seeds.ensures c.in_ok-nodes.nodes.items c.as_slice-3.result.now c.as_slice-3.ensures.value c.in_ok-nodes.ensures
    c.in_ok-renewed.renewed.items c.as_slice-4.result.now c.as_slice-4.ensures.value c.in_ok-renewed.ensures

pub renewed_among-requires-clause-codes : goal.renewed_among-requires-clause-codes
renewed_among-requires-clause-codes c =
    labels_are_codes (with_edit_entered c.args.new.now.tables.now.lists c.args.new.now.edit.now) (IsConsistent-entered c.args.new.now.tables.now.lists c.args.new.now.edit.now c.requires.sound.consistent c.requires.passes) c.args.bill.now c.requires.of

pub renewed_among-requires-clause-inside : goal.renewed_among-requires-clause-inside
renewed_among-requires-clause-inside c =
    nodes_inside c.args.new.now.tables.now.lists c.args.new.now.edit.now c.requires.sound c.requires.passes c.args.bill.now c.node_count.ensures.bill c.requires.of c.as_slice.result.now (c.as_slice.ensures.value ∙ c.in_ok-codes.ensures)
    c.in_ok-seeds.seeds.items c.as_slice-2.result.now c.as_slice-2.ensures.value c.in_ok-seeds.ensures c.in_ok-nodes.nodes.items c.as_slice-3.result.now c.as_slice-3.ensures.value c.in_ok-nodes.ensures

pub returns : goal.returns
returns c =
    if_ok _ _ c.owns_at.result c.owns_at.ensures
    (λ owns at.
    own_after c.args.new.now.tables.now.lists c.args.new.now.edit.now c.requires.sound c.requires.passes c.args.bill.now c.node_count.ensures.bill c.requires.of c.as_slice.result.now (c.as_slice.ensures.value ∙ c.in_ok-codes.ensures)
    c.in_ok-seeds.seeds.items c.as_slice-2.result.now c.as_slice-2.ensures.value c.in_ok-seeds.ensures c.in_ok-nodes.nodes.items c.as_slice-3.result.now c.as_slice-3.ensures.value c.in_ok-nodes.ensures
    c.in_ok-renewed.renewed.items c.as_slice-4.result.now c.as_slice-4.ensures.value c.in_ok-renewed.ensures c.args.names.now owns.items
    (own_at_after c.args.new.now.tables.now.lists c.args.new.now.edit.now c.requires.sound c.requires.passes c.args.new.now.change.now c.requires.made _ c.new-lists.ensures c.args.bill.now.labels c.args.names.now c.as_slice-4.result.now owns.items at))
