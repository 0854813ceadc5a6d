use Rattle.std.proofs.Common.{subst, sym}
use Rattle.desk_bridge.specs.Numbers.{AreNames}
use Rattle.desk_bridge.specs.OwnAfter.{AreOwnAt}
use Rattle.desk_bridge.proofs.Chains.{labels_are_codes}
use Rattle.desk_bridge.proofs.OwnsAfter.{consistent_now, few_now}
use Rattle.desk_bridge.proofs.OwnsAt.{if_ok}
use Rattle.desk_bridge.proofs.own_after.owns_of_all.Goals as goal

pub owns_at-requires-clause-consistent : goal.owns_at-requires-clause-consistent
owns_at-requires-clause-consistent c = consistent_now c.args.tables.now.lists c.requires.sound _ c.unchanged-lists.ensures

pub owns_at-requires-clause-few : goal.owns_at-requires-clause-few
owns_at-requires-clause-few c = few_now c.args.tables.now.lists c.requires.sound _ c.unchanged-lists.ensures

pub owns_at-requires-clause-named : goal.owns_at-requires-clause-named
owns_at-requires-clause-named c = subst (λ l. AreNames l c.args.names.now) (sym c.unchanged-lists.ensures) c.requires.named

pub owns_at-requires-clause-codes : goal.owns_at-requires-clause-codes
owns_at-requires-clause-codes c = labels_are_codes c.args.tables.now.lists c.requires.sound.consistent c.args.bill.now c.requires.of

pub returns : goal.returns
returns c =
    if_ok _ _ c.owns_at.result c.owns_at.ensures (λ owns at. subst (λ l. AreOwnAt l c.args.bill.now.labels c.args.names.now c.args.nodes.now owns.items) c.unchanged-lists.ensures at)
