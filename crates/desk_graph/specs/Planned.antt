-- What one edit does to a bill, and the bill as it will be.
use Rattle.std.specs.Prelude.{◌≡◌, ℕ, zero, suc, ◌+◌, ◌<◌, ◌≤◌, false, List, [], ◌∷◌, ◌++◌, Option, Some, None, Result, Ok, Err, length, slice_set}
use Rattle.desk_graph.specs.declared.line.BillLine.{BillLine}
use Rattle.desk_graph.specs.declared.bill_plan.LineChange.{LineChange}
use Rattle.desk_graph.specs.Graph.{AreUsers, Graph, IsByLabel, count_at, line_count, lines_of_node}
use Rattle.desk_graph.specs.Edits.{is_taken, node_answer, with_node}
use Rattle.desk_graph.specs.declared.fault.NodeFault.{NodeFault}
use Rattle.desk_graph.specs.declared.fault.PlanFault.{PlanFault}
use Rattle.desk_graph.specs.declared.fault.PlanFault.TheVariants.{Node}
use Rattle.desk_graph.specs.Order.{HasMadeWay}
use Rattle.desk_graph.specs.Reaches.{is_node_or_reaches}

-- the labels of new nodes, and the change of a line, if there is one
pub record BillEdit : Type 0 where
  pub labels : List (List ℕ)
  pub line : Option LineChange

-- the lines after the change
abbrev pub changed_lines : Option LineChange → List (List BillLine) → List (List BillLine)
changed_lines None lines = lines
changed_lines (Some change) lines = slice_set lines change.parent change.lines

-- the users after the change
abbrev pub changed_users : Option LineChange → List (List BillLine) → List (List BillLine)
changed_users None users = users
changed_users (Some change) users = slice_set users change.child change.users

-- the bill with new nodes, in this order, which have no lines
abbrev pub with_nodes : List (List ℕ) → Graph → Graph
with_nodes [] g = g
with_nodes (label ∷ labels) g = with_nodes labels (with_node label g)

-- the bill after the edit
abbrev pub graph_after : BillEdit → Graph → Graph
graph_after edit g = with_nodes edit.labels (record { labels = g.labels; lines = changed_lines edit.line g.lines })

-- the lists with so many empty ones more
abbrev pub with_empty : ℕ → List (List BillLine) → List (List BillLine)
with_empty zero lists = lists
with_empty (suc more) lists = with_empty more (lists ++ [] ∷ [])

-- the order with so many nodes more behind all others
abbrev pub with_next : ℕ → List ℕ → List ℕ
with_next zero order = order
with_next (suc more) order = with_next more (order ++ length order ∷ [])

-- the nodes stand as before, or the parent of a changed line made way for its child
abbrev pub HasMadeWayFor : List (List BillLine) → Option LineChange → List ℕ → List ℕ → Type 0
HasMadeWayFor users None old new = new ≡ old
HasMadeWayFor users (Some change) old new = HasMadeWay users change.parent change.child old new

-- both nodes of a changed line stand in the order
abbrev pub AreIn : List ℕ → Option LineChange → Type 0
AreIn order None = Unit {0}
AreIn order (Some change) = (change.parent < length order) × (change.child < length order)

-- the child of a changed line has a list
abbrev pub HasChild : List (List BillLine) → Option LineChange → Type 0
HasChild lists None = Unit {0}
HasChild lists (Some change) = change.child < length lists

-- what is answered to a plan of a node that is answered so
abbrev pub as_planned : Result ℕ NodeFault → Result ℕ PlanFault
as_planned (Ok number) = Ok number
as_planned (Err fault) = Err (Node fault)

-- the number of a new node, or why it can't be planned
abbrev pub plan_answer : List ℕ → Graph → Result ℕ PlanFault
plan_answer label g = as_planned (node_answer label g)

-- the change is one of this bill: both nodes are there, the child doesn't reach the parent, the lines fit, no line of the parent but the
-- one to the child differs, the users of the child are those of the new lines, and both lists stand in the order of their labels
pub record IsChange (g : Graph) (change : LineChange) : Type 0 where
  pub parent_there : change.parent < length g.labels
  pub child_there : change.child < length g.labels
  pub opens : is_node_or_reaches g.lines change.child change.parent ≡ false
  pub fits : line_count (slice_set g.lines change.parent change.lines) ≤ 131072
  pub only : (node : ℕ) → (node ≡ change.child → ⊥) → count_at change.lines node ≡ count_at (lines_of_node g.lines change.parent) node
  pub users : AreUsers (slice_set g.lines change.parent change.lines) change.child change.users
  pub by_label : IsByLabel g.labels change.lines
  pub by_user : IsByLabel g.labels change.users

-- the change, if there is one, is one of this bill
abbrev pub IsChangeOf : Graph → Option LineChange → Type 0
IsChangeOf g None = Unit {0}
IsChangeOf g (Some change) = IsChange g change

-- none of the new labels is taken, by an old one or by one before it
abbrev pub AreFree : List (List ℕ) → List (List ℕ) → Type 0
AreFree [] labels = Unit {0}
AreFree (label ∷ more) labels = (is_taken labels label ≡ false) × AreFree more (labels ++ label ∷ [])

-- the plan is one of this bill
pub record IsBillPlan (g : Graph) (edit : BillEdit) : Type 0 where
  pub line : IsChangeOf g edit.line
  pub free : AreFree edit.labels g.labels
  pub nodes_fit : length g.labels + length edit.labels ≤ 24576
