use Rattle.std.proofs.Common.{◌≡◌, ℕ, ◌<◌, true, ◌∷◌, length, set, refl, sym, ap, ◌∙◌, subst, arith}
use Rattle.std.specs.Vec.Iter.{into_iter_items}
use Rattle.std.proofs.lemmas.Bool.{eq-eqb, or_left, or_right}
use Rattle.std.proofs.lemmas.List.{length-set}
use Rattle.desk_graph.specs.Reaches.{has_node}
use Rattle.desk_rollup.specs.Plan.{AreDistinct, nodes_of_owns}
use Rattle.desk_rollup.specs.Values.{own_with}
use Rattle.desk_rollup.proofs.Puts.{put_own}
use Rattle.desk_rollup.proofs.rollups.put_owns.Goals as goal

pub bounds-kept-node : goal.bounds-kept-node
bounds-kept-node c =
    let own = c.in-Some.own in
    let rest = into_iter_items c.next.new.self in
    let there : has_node (nodes_of_owns (own ∷ rest)) own.node ≡ true = or_left (Rattle.std.specs.Prelude.nat_eq own.node own.node) (has_node (nodes_of_owns rest) own.node) (eq-eqb own.node own.node refl) in
    let low = c.loop-own.invariant.3 own.node (subst (λ l. has_node (nodes_of_owns l) own.node ≡ true) (sym c.in-Some.ensures.steps.0) there) in
    let P : ℕ → Type 0 = λ n. n < length c.loop-own.kept in
    subst P (sym (ap (λ o. o.node) c.own.view_is)) low

pub loop-own-preserved : goal.loop-own-preserved
loop-own-preserved c =
    let own = c.in-Some.own in
    let kept = c.loop-own.kept in
    let rest = into_iter_items c.next.new.self in
    let items = c.in-Some.ensures.steps.0 in
    let there : has_node (nodes_of_owns (own ∷ rest)) own.node ≡ true = or_left (Rattle.std.specs.Prelude.nat_eq own.node own.node) (has_node (nodes_of_owns rest) own.node) (eq-eqb own.node own.node refl) in
    let low = c.loop-own.invariant.3 own.node (subst (λ l. has_node (nodes_of_owns l) own.node ≡ true) (sym items) there) in
    let distinct : AreDistinct (nodes_of_owns (own ∷ rest)) = subst (λ l. AreDistinct (nodes_of_owns l)) items c.loop-own.invariant.2 in
    let is = ap (λ o. o.node) c.own.view_is in (
      tt,
      tt,
      distinct.1,
      λ node e.
          let below = c.loop-own.invariant.3 node (subst (λ l. has_node (nodes_of_owns l) node ≡ true) (sym items) (or_right (Rattle.std.specs.Prelude.nat_eq own.node node) (has_node (nodes_of_owns rest) node) e)) in
          omega (arith, below, length-set kept c.own.inside.node own),
      λ node.
          ap (λ n. own_with rest (set kept n own) node) is ∙ put_own own rest kept low distinct.0 node ∙ ap (λ l. own_with l kept node) (sym items) ∙ c.loop-own.invariant.4 node,
    )
