-- What a bill keeps: that its parts agree.
use Rattle.std.specs.Prelude.{◌≡◌, ℕ, ◌<◌, ◌≤◌, length, vec_capacity}
use Rattle.std.specs.declared.cmp.Ordering.TheVariants.{Equal}
use Rattle.desk_graph.specs.declared.bill.Bill.TheInside.{Inside}
use Rattle.desk_graph.specs.Graph.{Graph, label_cmp, label_of, line_count}
use Rattle.desk_graph.specs.Order.{AreBothEnds, IsInOrder}

-- the bill as callers see it
abbrev pub seen : Inside → Graph
seen bill = record { labels = bill.labels.items; lines = bill.lines.items }

-- the labels differ, the two ends of the lines agree, the order has children first, the count is that of the lines, the limits hold, and
-- there is room for all nodes that a bill may have
pub record HoldsTogether (bill : Inside) : Type 0 where
  pub unique : (a b : ℕ) → a < length bill.labels.items → b < length bill.labels.items →
      label_cmp (label_of bill.labels.items a) (label_of bill.labels.items b) ≡ Equal → a ≡ b
  pub ends : AreBothEnds bill.labels.items bill.lines.items bill.users.items
  pub order : IsInOrder bill.lines.items bill.order
  pub count : bill.line_count ≡ line_count bill.lines.items
  pub lines_fit : bill.line_count ≤ 131072
  pub nodes_fit : length bill.labels.items ≤ 24576
  pub labels_room : 24576 ≤ vec_capacity bill.labels
  pub lines_room : 24576 ≤ vec_capacity bill.lines
  pub users_room : 24576 ≤ vec_capacity bill.users
