use Rattle.std.proofs.Common.{◌≡◌, ℕ, ◌<◌, List, length, map, slice_index, sym, ap, ◌∙◌, subst, arith}
use Rattle.desk_graph.specs.Graph.{lines_of_node}
use Rattle.desk_graph.specs.Reaches.{AreAffected}
use Rattle.desk_rollup.specs.Places.{ArePlaced}
use Rattle.desk_rollup.specs.Plan.{IsRollPlan, PlannedValues, nodes_of_owns}
use Rattle.desk_rollup.specs.Sweep.{IsSweep}
use Rattle.desk_rollup.specs.Values.{DoFit, OwnValues}
use Rattle.desk_rollup.proofs.Counts.{has_at}
use Rattle.desk_rollup.proofs.Frame.{affected_inside}
use Rattle.desk_rollup.proofs.Prepared.{affected_count, few_nodes, few_owns, is_plan, new_fit, sweep_is}
use Rattle.desk_rollup.proofs.rollups.Rollups.prepare.Goals as goal

pub lists_of-requires : goal.lists_of-requires
lists_of-requires g c =
    let bill = g.B.BillView.graph c.args.bill.now in
    let nodes = c.in_ok-nodes.nodes.items in
    let affected = (subst (λ seeds. AreAffected (g.B.BillView.graph c.args.bill.now).lines seeds c.in_ok-nodes.nodes.items) (c.as_slice.ensures.value ∙ c.in_ok-seeds.ensures) c.in_ok-nodes.ensures.nodes) in
    let P = λ (l : List ℕ). (place : ℕ) → place < length l → slice_index l place < length bill.labels in
    subst P (sym c.as_slice-2.ensures.value)
    (λ place low. affected_inside bill c.node_count-count.ensures.bill (nodes_of_owns c.args.owns.now) nodes c.requires.nodes affected (slice_index nodes place) (has_at nodes place low))

pub new-requires-clause-few : goal.new-requires-clause-few
new-requires-clause-few g c =
    omega (arith, few_owns (g.B.BillView.graph c.args.bill.now) c.node_count-count.ensures.bill c.args.owns.now c.args.self.now c.requires, ap (λ l. length l) c.in_ok-seeds.ensures)

pub new-requires-2-clause-nodes : goal.new-requires-2-clause-nodes
new-requires-2-clause-nodes g c =
    let affected = (subst (λ seeds. AreAffected (g.B.BillView.graph c.args.bill.now).lines seeds c.in_ok-nodes.nodes.items) (c.as_slice.ensures.value ∙ c.in_ok-seeds.ensures) c.in_ok-nodes.ensures.nodes) in
    λ node e.
    omega (arith, affected_inside (g.B.BillView.graph c.args.bill.now) c.node_count-count.ensures.bill (nodes_of_owns c.args.owns.now) c.in_ok-nodes.nodes.items c.requires.nodes affected node e, c.node_count-count.ensures.count)

pub new-requires-2-clause-few : goal.new-requires-2-clause-few
new-requires-2-clause-few g c =
    let affected = (subst (λ seeds. AreAffected (g.B.BillView.graph c.args.bill.now).lines seeds c.in_ok-nodes.nodes.items) (c.as_slice.ensures.value ∙ c.in_ok-seeds.ensures) c.in_ok-nodes.ensures.nodes) in
    few_nodes (g.B.BillView.graph c.args.bill.now) c.node_count-count.ensures.bill c.args.owns.now c.args.self.now c.requires c.in_ok-nodes.nodes.items affected

pub judged-requires : goal.judged-requires
judged-requires g c =
    subst (λ lists. IsSweep (g.B.BillView.graph c.args.bill.now) c.args.owns.now c.args.self.now c.in_ok-of_owns.of_owns c.in_ok-places.places (map (λ list. list.now) lists)) (sym c.as_slice-3.ensures.value)
    (sweep_is (g.B.BillView.graph c.args.bill.now) c.args.owns.now c.args.self.now c.in_ok-of_owns.of_owns c.in_ok-places.places (map (λ list. list.now) c.in_ok-lists.lists.items) c.node_count-count.ensures.bill c.requires
    (subst (λ k. length k.owns ≡ length k.rolled) c.self.view_is c.self.invariant.sizes) (subst (λ k. DoFit k.rolled) c.self.view_is c.self.invariant.fit)
    (c.in_ok-of_owns.ensures ∙ c.in_ok-seeds.ensures) (subst ArePlaced c.of_owns.view_is c.of_owns.invariant) (subst ArePlaced c.places.view_is c.places.invariant) c.in_ok-nodes.nodes.items c.in_ok-places.ensures
    (subst (λ seeds. AreAffected (g.B.BillView.graph c.args.bill.now).lines seeds c.in_ok-nodes.nodes.items) (c.as_slice.ensures.value ∙ c.in_ok-seeds.ensures) c.in_ok-nodes.ensures.nodes) c.in_ok-nodes.ensures.children_first
    (c.in_ok-lists.ensures.lists ∙ ap (map (lines_of_node (g.B.BillView.graph c.args.bill.now).lines)) c.as_slice-2.ensures.value))

pub returns-in_err-lists-clause-few_steps : goal.returns-in_err-lists-clause-few_steps
returns-in_err-lists-clause-few_steps g c =
    let affected = (subst (λ seeds. AreAffected (g.B.BillView.graph c.args.bill.now).lines seeds c.in_ok-nodes.nodes.items) (c.as_slice.ensures.value ∙ c.in_ok-seeds.ensures) c.in_ok-nodes.ensures.nodes) in
    λ nodes of_nodes.
    omega (arith, c.in_err-lists.ensures.few_steps, ap (λ l. length l) c.as_slice-2.ensures.value, affected_count (g.B.BillView.graph c.args.bill.now).lines (nodes_of_owns c.args.owns.now) c.in_ok-nodes.nodes.items nodes affected of_nodes)

pub returns-in_err-of_owns-clause-few_steps : goal.returns-in_err-of_owns-clause-few_steps
returns-in_err-of_owns-clause-few_steps g c =
    let affected = (subst (λ seeds. AreAffected (g.B.BillView.graph c.args.bill.now).lines seeds c.in_ok-nodes.nodes.items) (c.as_slice.ensures.value ∙ c.in_ok-seeds.ensures) c.in_ok-nodes.ensures.nodes) in
    λ nodes of_nodes.
    omega (arith, c.in_ok-lists.ensures.few_steps, ap (λ l. length l) c.as_slice-2.ensures.value, affected_count (g.B.BillView.graph c.args.bill.now).lines (nodes_of_owns c.args.owns.now) c.in_ok-nodes.nodes.items nodes affected of_nodes)

pub returns-in_err-places-clause-few_steps : goal.returns-in_err-places-clause-few_steps
returns-in_err-places-clause-few_steps g c =
    let affected = (subst (λ seeds. AreAffected (g.B.BillView.graph c.args.bill.now).lines seeds c.in_ok-nodes.nodes.items) (c.as_slice.ensures.value ∙ c.in_ok-seeds.ensures) c.in_ok-nodes.ensures.nodes) in
    λ nodes of_nodes.
    omega (arith, c.in_ok-lists.ensures.few_steps, ap (λ l. length l) c.as_slice-2.ensures.value, affected_count (g.B.BillView.graph c.args.bill.now).lines (nodes_of_owns c.args.owns.now) c.in_ok-nodes.nodes.items nodes affected of_nodes)

pub returns-in_err-rolled-clause-few_steps : goal.returns-in_err-rolled-clause-few_steps
returns-in_err-rolled-clause-few_steps g c =
    let affected = (subst (λ seeds. AreAffected (g.B.BillView.graph c.args.bill.now).lines seeds c.in_ok-nodes.nodes.items) (c.as_slice.ensures.value ∙ c.in_ok-seeds.ensures) c.in_ok-nodes.ensures.nodes) in
    λ nodes of_nodes.
    omega (arith, c.in_ok-lists.ensures.few_steps, ap (λ l. length l) c.as_slice-2.ensures.value, affected_count (g.B.BillView.graph c.args.bill.now).lines (nodes_of_owns c.args.owns.now) c.in_ok-nodes.nodes.items nodes affected of_nodes)

pub returns-in_err-copied_owns-clause-few_steps : goal.returns-in_err-copied_owns-clause-few_steps
returns-in_err-copied_owns-clause-few_steps g c =
    let affected = (subst (λ seeds. AreAffected (g.B.BillView.graph c.args.bill.now).lines seeds c.in_ok-nodes.nodes.items) (c.as_slice.ensures.value ∙ c.in_ok-seeds.ensures) c.in_ok-nodes.ensures.nodes) in
    λ nodes of_nodes.
    omega (arith, c.in_ok-lists.ensures.few_steps, ap (λ l. length l) c.as_slice-2.ensures.value, affected_count (g.B.BillView.graph c.args.bill.now).lines (nodes_of_owns c.args.owns.now) c.in_ok-nodes.nodes.items nodes affected of_nodes)

pub returns-clause-few_steps : goal.returns-clause-few_steps
returns-clause-few_steps g c =
    let affected = (subst (λ seeds. AreAffected (g.B.BillView.graph c.args.bill.now).lines seeds c.in_ok-nodes.nodes.items) (c.as_slice.ensures.value ∙ c.in_ok-seeds.ensures) c.in_ok-nodes.ensures.nodes) in
    λ nodes of_nodes.
    omega (arith, c.in_ok-lists.ensures.few_steps, ap (λ l. length l) c.as_slice-2.ensures.value, affected_count (g.B.BillView.graph c.args.bill.now).lines (nodes_of_owns c.args.owns.now) c.in_ok-nodes.nodes.items nodes affected of_nodes)

pub invariant_of-result : goal.invariant_of-result
invariant_of-result g c =
    let sweep = sweep_is (g.B.BillView.graph c.args.bill.now) c.args.owns.now c.args.self.now c.in_ok-of_owns.of_owns c.in_ok-places.places (map (λ list. list.now) c.in_ok-lists.lists.items) c.node_count-count.ensures.bill c.requires
    (subst (λ k. length k.owns ≡ length k.rolled) c.self.view_is c.self.invariant.sizes) (subst (λ k. DoFit k.rolled) c.self.view_is c.self.invariant.fit)
    (c.in_ok-of_owns.ensures ∙ c.in_ok-seeds.ensures) (subst ArePlaced c.of_owns.view_is c.of_owns.invariant) (subst ArePlaced c.places.view_is c.places.invariant) c.in_ok-nodes.nodes.items c.in_ok-places.ensures
    (subst (λ seeds. AreAffected (g.B.BillView.graph c.args.bill.now).lines seeds c.in_ok-nodes.nodes.items) (c.as_slice.ensures.value ∙ c.in_ok-seeds.ensures) c.in_ok-nodes.ensures.nodes) c.in_ok-nodes.ensures.children_first
    (c.in_ok-lists.ensures.lists ∙ ap (map (lines_of_node (g.B.BillView.graph c.args.bill.now).lines)) c.as_slice-2.ensures.value) in (
      c.in_ok-rolled.ensures.size,
      omega (arith, c.node_count-count.ensures.count, c.node_count-count.ensures.bill.nodes),
      new_fit (g.B.BillView.graph c.args.bill.now) c.args.owns.now c.args.self.now c.in_ok-of_owns.of_owns c.in_ok-places.places (map (λ list. list.now) c.in_ok-lists.lists.items) sweep c.in_ok-rolled.rolled.items
          c.in_ok-rolled.ensures.size c.in_ok-rolled.ensures.right c.in_ok-rolled.ensures.accepted.fit,
    )

pub returns-clause-plan : goal.returns-clause-plan
returns-clause-plan g c =
    let sweep = sweep_is (g.B.BillView.graph c.args.bill.now) c.args.owns.now c.args.self.now c.in_ok-of_owns.of_owns c.in_ok-places.places (map (λ list. list.now) c.in_ok-lists.lists.items) c.node_count-count.ensures.bill c.requires
    (subst (λ k. length k.owns ≡ length k.rolled) c.self.view_is c.self.invariant.sizes) (subst (λ k. DoFit k.rolled) c.self.view_is c.self.invariant.fit)
    (c.in_ok-of_owns.ensures ∙ c.in_ok-seeds.ensures) (subst ArePlaced c.of_owns.view_is c.of_owns.invariant) (subst ArePlaced c.places.view_is c.places.invariant) c.in_ok-nodes.nodes.items c.in_ok-places.ensures
    (subst (λ seeds. AreAffected (g.B.BillView.graph c.args.bill.now).lines seeds c.in_ok-nodes.nodes.items) (c.as_slice.ensures.value ∙ c.in_ok-seeds.ensures) c.in_ok-nodes.ensures.nodes) c.in_ok-nodes.ensures.children_first
    (c.in_ok-lists.ensures.lists ∙ ap (map (lines_of_node (g.B.BillView.graph c.args.bill.now).lines)) c.as_slice-2.ensures.value) in
    let plan = is_plan (g.B.BillView.graph c.args.bill.now) c.args.owns.now c.args.self.now c.in_ok-of_owns.of_owns c.in_ok-places.places (map (λ list. list.now) c.in_ok-lists.lists.items) sweep c.in_ok-rolled.rolled.items
    c.in_ok-rolled.ensures.size c.in_ok-rolled.ensures.right in
    let bill = g.B.BillView.graph c.args.bill.now in
    let made = λ (n : ℕ) (o : List OwnValues).
    let it : PlannedValues = record { count = n; owns = o; nodes = c.in_ok-places.places.nodes; rolled = c.in_ok-rolled.rolled.items } in it in
    subst (λ o. IsRollPlan bill c.args.owns.now c.args.self.now (made c.node_count-count.result o)) (sym c.in_ok-copied_owns.ensures)
    (subst (λ n. IsRollPlan bill c.args.owns.now c.args.self.now (made n c.args.owns.now)) (sym c.node_count-count.ensures.count) plan)
