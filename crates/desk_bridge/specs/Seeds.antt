-- The nodes at which the change of an edit begins.
use Rattle.std.specs.Prelude.{◌≡◌, ℕ, ◌&&◌, List, length, nat_lt}
use Rattle.std.specs.List.{list_any}
use Rattle.desk_text.specs.Code.{same_code}
use Rattle.desk_graph.specs.Graph.{label_of}
use Rattle.desk_graph.specs.Reaches.{has_node}

-- these are the nodes whose labels are among the codes
abbrev pub AreNodesOf : List (List ℕ) → List (List ℕ) → List ℕ → Type 0
AreNodesOf labels codes nodes = (node : ℕ) → has_node nodes node ≡ (nat_lt node (length labels) && list_any (same_code (label_of labels node)) codes)
