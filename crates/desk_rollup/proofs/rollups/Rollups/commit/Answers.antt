use Rattle.std.proofs.Common.{◌≡◌, ◌==◌, ◌<◌, false, List, length, slice_index, IfSome, sym, ap, ◌∙◌, subst}
use Rattle.std.proofs.lemmas.List.{with_items_is}
use Rattle.desk_graph.specs.Reaches.{has_node}
use Rattle.desk_rollup.specs.declared.own.Own.{Own}
use Rattle.desk_rollup.specs.declared.rolled.Rolled.{Rolled}
use Rattle.desk_rollup.specs.Plan.{AreDistinct, AreRolledUp}
use Rattle.desk_rollup.specs.Values.{AreHopsInOrder, DoFit, KeptValues, hop_total, own_at, own_with, rolled_at}
use Rattle.desk_rollup.proofs.RolledUp.{new_order, nodes_distinct, rolled_up}
use Rattle.desk_rollup.proofs.rollups.Rollups.commit.Goals as goal

pub put_rolled-self-inside-requires-clause-distinct : goal.put_rolled-self-inside-requires-clause-distinct
put_rolled-self-inside-requires-clause-distinct c =
    subst AreDistinct (sym (c.as_slice.ensures ∙ ap (λ p. p.nodes) c.plan.view_is)) (nodes_distinct c.requires.0 c.requires.1 c.args.self.now c.args.plan c.requires.2)

pub invariant_of-self : goal.invariant_of-self
invariant_of-self c =
    let owns = with_items_is c.self.inside.owns c.put_owns.new.kept (c.put_owns.ensures.size ∙ c.as_mut_slice.ensures.len) in
    let rolled = with_items_is c.self.inside.rolled c.put_rolled-self-inside.new.kept (c.put_rolled-self-inside.ensures.size ∙ c.as_mut_slice-kept.ensures.len) in
    record {
      sizes =
          ap (λ l. length l) owns ∙ c.put_owns.ensures.size ∙ ap (λ l. length l) c.as_mut_slice.ensures.value ∙ c.self.invariant.sizes
          ∙ sym (ap (λ l. length l) rolled ∙ c.put_rolled-self-inside.ensures.size ∙ ap (λ l. length l) c.as_mut_slice-kept.ensures.value);
      fit = subst DoFit (sym rolled) (c.put_rolled-self-inside.ensures.fit (subst DoFit (sym c.as_mut_slice-kept.ensures.value) c.self.invariant.fit) c.plan.invariant.2);
      order =
          subst AreHopsInOrder (sym rolled)
          (c.put_rolled-self-inside.ensures.order (subst AreHopsInOrder (sym c.as_mut_slice-kept.ensures.value) c.self.invariant.order)
          (subst (λ plan. AreHopsInOrder plan.rolled) (sym c.plan.view_is) (new_order c.requires.0 c.requires.1 c.args.self.now c.args.plan c.requires.2)));
      hops = subst (λ l. IfSome c.put_rolled-self-inside.result (λ hops. hops ≡ hop_total l)) (sym rolled) c.put_rolled-self-inside.ensures.hops;
      owns_room = c.self.invariant.owns_room;
      rolled_room = c.self.invariant.rolled_room;
    }

pub returns-clause-rolled : goal.returns-clause-rolled
returns-clause-rolled c = λ g owns is.
    let new_owns = with_items_is c.self.inside.owns c.put_owns.new.kept (c.put_owns.ensures.size ∙ c.as_mut_slice.ensures.len) in
    let new_rolled = with_items_is c.self.inside.rolled c.put_rolled-self-inside.new.kept (c.put_rolled-self-inside.ensures.size ∙ c.as_mut_slice-kept.ensures.len) in
    let count = ap (λ p. p.count) c.plan.view_is in
    let nodes = c.as_slice.ensures ∙ ap (λ p. p.nodes) c.plan.view_is in
    let kept : KeptValues = record { owns = c.put_owns.new.kept; rolled = c.put_rolled-self-inside.new.kept } in
    let was = c.as_mut_slice.ensures.value ∙ ap (λ k. k.owns) c.self.view_is in
    let were = c.as_mut_slice-kept.ensures.value ∙ ap (λ k. k.rolled) c.self.view_is in
    let right : AreRolledUp g kept =
    rolled_up g owns c.args.self.now c.args.plan is kept (c.put_owns.ensures.size ∙ ap (λ l. length l) was ∙ c.grow.ensures.owns_size ∙ count) (c.put_rolled-self-inside.ensures.size ∙ ap (λ l. length l) were ∙ c.grow.ensures.rolled_size ∙ count)
    (λ node. c.put_owns.ensures.owns node ∙ ap (λ l. own_with l c.as_mut_slice.result.now node) (ap (λ p. p.owns) c.plan.view_is)
    ∙ ap (λ o. Rattle.std.proofs.Common.unwrap_or (Rattle.std.proofs.Common.find (λ x. x.node == node) c.args.plan.owns) o) (ap (λ l. own_at l node) was ∙ c.grow.ensures.owns node))
    (λ node away. c.put_rolled-self-inside.ensures.stays node (subst (λ l. has_node l node ≡ false) (sym nodes) away) ∙ ap (λ l. rolled_at l node) were ∙ c.grow.ensures.rolled node)
    (λ place low.
    ap (λ l. rolled_at c.put_rolled-self-inside.new.kept (slice_index l place)) (sym nodes) ∙ c.put_rolled-self-inside.ensures.put place (subst (λ l. place < length l) (sym nodes) low) ∙ ap (λ p. rolled_at p.rolled place) c.plan.view_is) in
    let all : (o : List Own) → o ≡ c.put_owns.new.kept → (r : List Rolled) → r ≡ c.put_rolled-self-inside.new.kept → AreRolledUp g (record { owns = o; rolled = r }) = λ o e r f.
    subst (λ x. AreRolledUp g (record { owns = x; rolled = r })) (sym e) (subst (λ x. AreRolledUp g (record { owns = c.put_owns.new.kept; rolled = x })) (sym f) right) in
    all _ new_owns _ new_rolled
