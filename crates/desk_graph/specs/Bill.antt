-- What holds of every bill.
use Rattle.std.specs.Prelude.{◌≡◌, ℕ, ◌<◌, ◌≤◌, true, false, length}
use Rattle.desk_graph.specs.Graph.{Graph, IsByLabel, is_line_between, label_of, line_count, lines_of_node}
use Rattle.desk_graph.specs.Reaches.{Falls, node_reaches}

-- the labels differ, lines lead from node to node, the lines of a node stand in the order of their labels, no node reaches itself, so
-- that some number of each node falls along the lines, and the limits hold
pub record IsBillGraph (g : Graph) : Type 0 where
  pub unique : (a b : ℕ) → a < length g.labels → b < length g.labels → label_of g.labels a ≡ label_of g.labels b → a ≡ b
  pub sizes : length g.lines ≡ length g.labels
  pub children : (parent child : ℕ) → is_line_between g.lines parent child ≡ true → child < length g.labels
  pub by_label : (node : ℕ) → IsByLabel g.labels (lines_of_node g.lines node)
  pub acyclic : (node : ℕ) → node_reaches g.lines node node ≡ false
  pub ranked : (rank : ℕ → ℕ) × Falls g.lines rank
  pub nodes : length g.labels ≤ 24576
  pub lines_fit : line_count g.lines ≤ 131072
