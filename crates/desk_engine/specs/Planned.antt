-- What an edit makes of what is stored.
use Rattle.std.specs.Prelude.{◌≡◌, ℕ, ◌+◌, ◌<◌, false, List, [], ◌∷◌, Option, Some, None, length, unwrap_or, if◌then◌else◌}
use Rattle.desk_text.specs.Code.{code_cmp}
use Rattle.desk_rows.specs.Held.{IsRoomFor}
use Rattle.desk_rows.specs.Rows.{with_rows}
use Rattle.desk_graph.specs.Graph.{Graph, label_of}
use Rattle.desk_graph.specs.Planned.{IsBillPlan, graph_after}
use Rattle.desk_graph.specs.Reaches.{has_node}
use Rattle.desk_rollup.specs.Plan.{IsWithinLimits, IsRollPlan, PlannedValues}
use Rattle.desk_rollup.specs.Values.{KeptValues, own_with}
use Rattle.desk_model.specs.declared.edit.Edit.{Edit}
use Rattle.desk_model.specs.Effect.{with_edit_entered}
use Rattle.desk_model.specs.Lists.{Lists}
use Rattle.desk_history.specs.Affected.{affected, is_affected}
use Rattle.desk_history.specs.Rising.{changes_shipments}
use Rattle.desk_bridge.specs.Numbers.{finding_number}
use Rattle.desk_bridge.specs.Values.{HasOwnValues}
use Rattle.desk_bridge.specs.declared.node_index.NodeRow.{NodeRow}
use Rattle.desk_engine.specs.declared.stored.Stored.{Stored}
use Rattle.desk_engine.specs.declared.stored_plan.StoredPlan.{StoredPlan}
use Rattle.desk_engine.specs.Stored.{AreStoredOf}
use Rattle.desk_engine.specs.Years.{CanChange, years_after}

-- the rows of nodes with these codes, which are numbered on from a number
abbrev pub node_rows_from : ℕ → List (List ℕ) → List NodeRow
node_rows_from node [] = []
node_rows_from node (code ∷ codes) = record { code = code; node = node } ∷ node_rows_from (node + 1) codes

-- the nodes by code, with other nodes put in
abbrev pub nodes_with : List NodeRow → List NodeRow → List NodeRow
nodes_with more nodes = with_rows (λ row. row.code) code_cmp more nodes

-- the plan of the roll-ups is good for this bill, which is that of the tables after the edit: the own values are right then, none of the
-- refusals 21 and 22 is met, and just the affected nodes are replaced
pub record IsRolledFor (t : Lists) (edit : Edit) (g : Graph) (names : List (List ℕ)) (kept : KeptValues) (plan : PlannedValues) : Type 0 where
  pub rolls : IsRollPlan g plan.owns kept plan
  pub values : HasOwnValues (with_edit_entered t edit) g (finding_number g.labels names) (label_of names) (own_with plan.owns kept.owns)
  pub accepted : IsWithinLimits g (own_with plan.owns kept.owns)
  pub affected : (node : ℕ) → node < length g.labels → has_node plan.nodes node ≡ is_affected t edit (label_of g.labels node)

-- the plan can be carried out at what is stored as it stands, and leaves what is to be stored of these tables
pub record LeavesStored (stored : Stored) (u : Lists) (plan : StoredPlan) : Type 0 where
  pub bill : IsBillPlan stored.bill plan.bill
  pub room : IsRoomFor (length plan.nodes) stored.index plan.room
  pub rollups : IsRollPlan (graph_after plan.bill stored.bill) plan.rollups.owns stored.rollups plan.rollups
  pub years : CanChange stored.years plan.years
  pub of : AreStoredOf u (graph_after plan.bill stored.bill) (nodes_with plan.nodes stored.index.rows) (own_with plan.rollups.owns stored.rollups.owns)
      (unwrap_or plan.names stored.names) (years_after plan.years stored.years.entries)

-- the same, where nothing is done if the tables stay
abbrev pub LeavesStoredOr : Stored → Lists → Lists → Option StoredPlan → Type 0
LeavesStoredOr stored t u None = u ≡ t
LeavesStoredOr stored t u (Some plan) = LeavesStored stored u plan

-- just the nodes whose codes the edit affects are replaced
abbrev pub ReplacesAffected : Stored → Lists → Edit → Option StoredPlan → Type 0
ReplacesAffected stored t edit None = (code : List ℕ) → is_affected t edit code ≡ false
ReplacesAffected stored t edit (Some plan) = (node : ℕ) → node < length (graph_after plan.bill stored.bill).labels →
    has_node plan.rollups.nodes node ≡ is_affected t edit (label_of (graph_after plan.bill stored.bill).labels node)

-- the steps that it takes at most to plan an edit: one for each material and part that it affects, and one for an edit of shipments
abbrev pub most_steps : Lists → Edit → ℕ
most_steps t edit = length (affected t edit) + (if changes_shipments edit then 1 else 0)
