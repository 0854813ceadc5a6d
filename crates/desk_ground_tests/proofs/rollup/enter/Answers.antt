use Rattle.std.proofs.Common.{◌≡◌, [], ◌∷◌, ◌++◌, sym, ap, ◌∙◌, subst}
use Rattle.desk_graph.specs.Planned.{graph_after}
use Rattle.desk_rollup.specs.Laws.{ChangesOne}
use Rattle.desk_rollup.specs.Plan.{AreRolledUp, CanPrepare, IsRollPlan}
use Rattle.desk_rollup.proofs.OneNode.{light_after, may_prepare}
use Rattle.desk_ground_tests.proofs.rollup.enter.Goals as goal

pub prepare-requires : goal.prepare-requires
prepare-requires g c =
    let own = c.args.own in
    let bill = c.desk.inside.bill in
    let owns : c.as_slice.result.now ≡ own ∷ [] = c.as_slice.ensures.value ∙ c.in_ok-push.ensures.items ∙ ap (λ l. l ++ own ∷ []) c.new-owns.ensures.items in
    let new : c.new-after.result ≡ graph_after c.args.plan bill = c.new-after.ensures in
    let one : ChangesOne bill c.new-after.result own.node = subst (λ h. ChangesOne bill h own.node) (sym new) (subst (λ b. ChangesOne b (graph_after c.args.plan b) own.node) (sym c.desk.view_is) c.requires.one) in
    subst (λ o. CanPrepare c.new-after.result o c.desk.inside.rollups) (sym owns)
    (may_prepare bill c.new-after.result c.node_count-before.ensures.bill c.node_count-nodes.ensures.bill c.desk.inside.rollups c.desk.invariant.0 own one c.desk.invariant.1 c.requires.light)

pub invariant_of-desk-2 : goal.invariant_of-desk-2
invariant_of-desk-2 g c =
    let own = c.args.own in
    let bill = c.desk.inside.bill in
    let owns : c.as_slice.result.now ≡ own ∷ [] = c.as_slice.ensures.value ∙ c.in_ok-push.ensures.items ∙ ap (λ l. l ++ own ∷ []) c.new-owns.ensures.items in
    let is : IsRollPlan c.new-after.result (own ∷ []) c.desk.inside.rollups c.in-Ok.rolled = subst (λ o. IsRollPlan c.new-after.result o c.desk.inside.rollups c.in-Ok.rolled) owns c.in-Ok.ensures.plan in
    let up = c.commit.ensures.rolled c.new-after.result (own ∷ []) is in
    let after : c.commit-2.new.self ≡ c.new-after.result = c.commit-2.ensures ∙ sym c.new-after.ensures in (
      subst (λ h. AreRolledUp h c.commit.new.self) (sym after) up,
      light_after c.new-after.result c.desk.inside.rollups c.commit.new.self own up (c.commit.ensures.owns c.new-after.result (own ∷ []) is) c.desk.invariant.1 c.requires.light,
    )
