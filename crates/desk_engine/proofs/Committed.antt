-- What is stored after a plan.
use Rattle.std.proofs.Common.{◌≡◌, ℕ, ◌<◌, List, length, unwrap_or, sym, subst}
use Rattle.desk_graph.specs.Graph.{Graph, label_of}
use Rattle.desk_graph.specs.Planned.{graph_after}
use Rattle.desk_rollup.specs.Plan.{AreRolledUp}
use Rattle.desk_rollup.specs.Values.{OwnValues, own_at, own_with}
use Rattle.desk_model.specs.Lists.{Lists}
use Rattle.desk_tonnage.specs.declared.entry.Entry.{Entry}
use Rattle.desk_bridge.specs.AfterEdit.{IsOwnOf}
use Rattle.desk_bridge.specs.Numbers.{finding_number}
use Rattle.desk_bridge.specs.declared.node_index.NodeRow.{NodeRow}
use Rattle.desk_engine.specs.declared.stored.Stored.{Stored}
use Rattle.desk_engine.specs.declared.stored_plan.StoredPlan.{StoredPlan}
use Rattle.desk_engine.specs.Planned.{LeavesStored, nodes_with}
use Rattle.desk_engine.specs.Stored.{AreStoredOf, IsStoredOf}
use Rattle.desk_engine.specs.Years.{years_after}

-- own values that are the same at the nodes of a bill
same_owns : (t : Lists) (g : Graph) (nodes : List NodeRow) (own other : ℕ → OwnValues) (names : List (List ℕ)) (entries : List Entry) → ((node : ℕ) → node < length g.labels → other node ≡ own node) → AreStoredOf t g nodes own names entries → AreStoredOf t g nodes other names entries
same_owns t g nodes own other names entries same of = record {
  bill = of.bill;
  index = of.index;
  named = of.named;
  owns = λ node inside. subst (IsOwnOf t (finding_number g.labels names) (label_of names) (label_of g.labels node)) (sym (same node inside)) (of.owns node inside);
  years = of.years;
}

pub committed : (u : Lists) (stored now : Stored) (plan : StoredPlan) → LeavesStored stored u plan → now.bill ≡ graph_after plan.bill stored.bill → now.index.rows ≡ nodes_with plan.nodes stored.index.rows → AreRolledUp (graph_after plan.bill stored.bill) now.rollups →
    ((node : ℕ) → node < length (graph_after plan.bill stored.bill).labels → own_at now.rollups.owns node ≡ own_with plan.rollups.owns stored.rollups.owns node) → now.names ≡ unwrap_or plan.names stored.names → now.years.entries ≡ years_after plan.years stored.years.entries → IsStoredOf u now
committed u stored now plan left bill index rolled owns names years = record {
  of =
      subst (λ g. AreStoredOf u g now.index.rows (own_at now.rollups.owns) now.names now.years.entries) (sym bill)
      (subst (λ rows. AreStoredOf u (graph_after plan.bill stored.bill) rows (own_at now.rollups.owns) now.names now.years.entries) (sym index)
      (subst (λ list. AreStoredOf u (graph_after plan.bill stored.bill) (nodes_with plan.nodes stored.index.rows) (own_at now.rollups.owns) list now.years.entries) (sym names)
      (subst (AreStoredOf u (graph_after plan.bill stored.bill) (nodes_with plan.nodes stored.index.rows) (own_at now.rollups.owns) (unwrap_or plan.names stored.names)) (sym years)
      (same_owns u (graph_after plan.bill stored.bill) (nodes_with plan.nodes stored.index.rows) (own_with plan.rollups.owns stored.rollups.owns) (own_at now.rollups.owns) (unwrap_or plan.names stored.names) (years_after plan.years stored.years.entries) owns left.of))));
  rolled = subst (λ g. AreRolledUp g now.rollups) (sym bill) rolled;
}
