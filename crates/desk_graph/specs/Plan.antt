-- A line that is planned, and what makes the plan good for a bill.
use Rattle.std.specs.Prelude.{◌≡◌, ℕ, ◌<◌, ◌≤◌, false, List, length}
use Rattle.desk_graph.specs.declared.line.BillLine.{BillLine}
use Rattle.desk_graph.specs.Graph.{AreUsers, Graph, IsByLabel, line_count, lines_of_node}
use Rattle.desk_graph.specs.Edits.{with_line_of_node, with_line_in}
use Rattle.desk_graph.specs.Reaches.{is_node_or_reaches}

-- a line, with the lines of its parent and the users of its child as they will be
pub record Planned : Type 0 where
  pub parent : ℕ
  pub child : ℕ
  pub count : ℕ
  pub lines : List BillLine
  pub users : List BillLine

-- the plan is one of this bill: both nodes are there, the line closes no cycle and fits, and the lists are those of the bill with it
pub record IsLinePlan (g : Graph) (plan : Planned) : Type 0 where
  pub parent_there : plan.parent < length g.labels
  pub child_there : plan.child < length g.labels
  pub opens : is_node_or_reaches g.lines plan.child plan.parent ≡ false
  pub fits : line_count (with_line_in plan.parent plan.child plan.count g).lines ≤ 131072
  pub new_lines : plan.lines ≡ with_line_of_node g.labels (record { node = plan.child; count = plan.count }) (lines_of_node g.lines plan.parent)
  pub new_users : AreUsers (with_line_in plan.parent plan.child plan.count g).lines plan.child plan.users
  pub by_user : IsByLabel g.labels plan.users
