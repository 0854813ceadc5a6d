use Rattle.std.proofs.Common.{◌∙◌, ap, subst, sym}
use Rattle.desk_graph.specs.Reaches.{has_node}
use Rattle.desk_rollup.specs.declared.fault.RollFault.TheVariants.{MarksFull}
use Rattle.desk_rollup.specs.Plan.{AreDistinct, CanPrepare, IsRefused}
use Rattle.desk_rollup.specs.Values.{own_with}
use Rattle.desk_bridge.specs.OwnAfter.{AreOwnAt}
use Rattle.desk_engine.proofs.Starts.{no_large, not_many, start_can, start_owns}
use Rattle.desk_engine.proofs.start.rollups_of.Goals as goal

pub prepare-requires : goal.prepare-requires
prepare-requires g c =
    subst (λ kept. CanPrepare c.args.bill.now c.as_slice-2.result.now kept) (sym c.in_ok-rollups.ensures)
    (start_can c.args.tables.now.lists c.requires.sound c.args.bill.now c.node_count.ensures.bill c.requires.of c.args.names.now c.requires.named c.as_slice.result.now (λ node. ap (λ nodes. has_node nodes node) c.as_slice.ensures.value ∙ c.in_ok-nodes.ensures.has node)
    (subst AreDistinct (sym c.as_slice.ensures.value) c.in_ok-nodes.ensures.distinct) c.as_slice-2.result.now (subst (AreOwnAt c.args.tables.now.lists c.args.bill.now.labels c.args.names.now c.as_slice.result.now) (sym c.as_slice-2.ensures.value) c.in_ok-owns.ensures))

pub returns-in-Ok-clause-owns : goal.returns-in-Ok-clause-owns
returns-in-Ok-clause-owns g c =
    start_owns c.args.tables.now.lists c.requires.sound c.args.bill.now c.node_count.ensures.bill c.requires.of c.args.names.now c.requires.named c.as_slice.result.now (λ node. ap (λ nodes. has_node nodes node) c.as_slice.ensures.value ∙ c.in_ok-nodes.ensures.has node)
    (subst AreDistinct (sym c.as_slice.ensures.value) c.in_ok-nodes.ensures.distinct) c.as_slice-2.result.now (subst (AreOwnAt c.args.tables.now.lists c.args.bill.now.labels c.args.names.now c.as_slice.result.now) (sym c.as_slice-2.ensures.value) c.in_ok-owns.ensures)
    c.commit.new.self
    (λ node inside. c.commit.ensures.owns c.args.bill.now c.as_slice-2.result.now c.in-Ok.ensures.plan node inside ∙ ap (λ kept. own_with c.as_slice-2.result.now kept.owns node) c.in_ok-rollups.ensures)

pub unreachable-requires : goal.unreachable-requires
unreachable-requires g c =
    no_large c.args.tables.now.lists c.requires.sound c.args.bill.now c.node_count.ensures.bill c.requires.of c.args.names.now c.requires.named c.as_slice.result.now (λ node. ap (λ nodes. has_node nodes node) c.as_slice.ensures.value ∙ c.in_ok-nodes.ensures.has node)
    (subst AreDistinct (sym c.as_slice.ensures.value) c.in_ok-nodes.ensures.distinct) c.as_slice-2.result.now (subst (AreOwnAt c.args.tables.now.lists c.args.bill.now.labels c.args.names.now c.as_slice.result.now) (sym c.as_slice-2.ensures.value) c.in_ok-owns.ensures)
    c.in-Err-WeightTooLarge.field-0 _ c.in-Err-WeightTooLarge.field-0-is c.in_ok-rollups.rollups c.in_ok-rollups.ensures c.in-Err-WeightTooLarge.ensures.refused

pub unreachable-requires-in-Err-MarksFull : goal.unreachable-requires-in-Err-MarksFull
unreachable-requires-in-Err-MarksFull g c =
    not_many c.args.tables.now.lists c.requires.sound c.args.bill.now c.node_count.ensures.bill c.requires.of c.args.names.now c.requires.named c.as_slice.result.now (λ node. ap (λ nodes. has_node nodes node) c.as_slice.ensures.value ∙ c.in_ok-nodes.ensures.has node)
    (subst AreDistinct (sym c.as_slice.ensures.value) c.in_ok-nodes.ensures.distinct) c.as_slice-2.result.now (subst (AreOwnAt c.args.tables.now.lists c.args.bill.now.labels c.args.names.now c.as_slice.result.now) (sym c.as_slice-2.ensures.value) c.in_ok-owns.ensures)
    (subst (λ kept. IsRefused c.args.bill.now (own_with c.as_slice-2.result.now kept.owns) MarksFull) c.in_ok-rollups.ensures (subst (IsRefused c.args.bill.now (own_with c.as_slice-2.result.now c.in_ok-rollups.rollups.owns)) c.in-Err-MarksFull.field-0-is c.in-Err-MarksFull.ensures.refused))
