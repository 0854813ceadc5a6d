-- What a node reaches along the lines, and the chain to it.
use Rattle.std.specs.Prelude.{◌≡◌, ℕ, zero, suc, ◌+◌, ◌<◌, Bool, true, false, ◌||◌, ◌==◌, List, [], ◌∷◌, Option, length, find, option_map, if◌then◌else◌, count_by}
use Rattle.std.specs.List.{AllPairs, list_any}
use Rattle.std.specs.Option.{option_map_or}
use Rattle.desk_graph.specs.declared.line.BillLine.{BillLine}
use Rattle.desk_graph.specs.Graph.{lines_of_node, is_line_between}

-- the node reaches the target within so many lines: some line of it has a child that is the target or reaches it within one line
-- fewer
unfoldable pub node_reaches_within : List (List BillLine) → ℕ → ℕ → ℕ → Bool
node_reaches_within lines zero node target = false
node_reaches_within lines (suc k) node target =
    list_any (λ line. line.node == target || node_reaches_within lines k line.node target) (lines_of_node lines node)

-- more lines than this no chain has
abbrev pub longest_node_chain : List (List BillLine) → ℕ
longest_node_chain lines = length lines + 1

-- the node reaches the target, directly or through other nodes
abbrev pub node_reaches : List (List BillLine) → ℕ → ℕ → Bool
node_reaches lines node target = node_reaches_within lines (longest_node_chain lines) node target

-- the node is the target or reaches it
abbrev pub is_node_or_reaches : List (List BillLine) → ℕ → ℕ → Bool
is_node_or_reaches lines node target = node == target || node_reaches lines node target

-- the child of the node with the least label that is the target or reaches it: the lines of a node stand in the order of their labels
abbrev pub next_node_to : List (List BillLine) → ℕ → ℕ → Option ℕ
next_node_to lines node target = option_map (λ line. line.node) (find (λ line. is_node_or_reaches lines line.node target) (lines_of_node lines node))

-- the chain of at most so many lines: the node alone where it is the target; else the node, and the chain from the next child
unfoldable pub chain_of_nodes_within : List (List BillLine) → ℕ → ℕ → ℕ → List ℕ
chain_of_nodes_within lines zero node target = node ∷ []
chain_of_nodes_within lines (suc k) node target =
    if node == target then node ∷ [] else node ∷ option_map_or (λ child. chain_of_nodes_within lines k child target) (next_node_to lines node target) []

-- the chain from a node to a target
abbrev pub chain_of_nodes : List (List BillLine) → ℕ → ℕ → List ℕ
chain_of_nodes lines node target = chain_of_nodes_within lines (longest_node_chain lines) node target

-- the list has the node
abbrev pub has_node : List ℕ → ℕ → Bool
has_node nodes node = list_any (λ other. other == node) nodes

-- the node is a seed or reaches one
abbrev pub is_node_affected : List (List BillLine) → List ℕ → ℕ → Bool
is_node_affected lines seeds node = list_any (λ seed. is_node_or_reaches lines node seed) seeds

-- no node of the list is a child of one before it
abbrev pub AreChildrenFirst : List (List BillLine) → List ℕ → Type 0
AreChildrenFirst lines nodes = AllPairs (λ earlier later. is_line_between lines earlier later ≡ false) nodes

-- the list has each affected node once, and no other node
abbrev pub AreAffected : List (List BillLine) → List ℕ → List ℕ → Type 0
AreAffected lines seeds nodes = (node : ℕ) → count_by (λ other. other == node) nodes ≡ (if is_node_affected lines seeds node then 1 else 0)

-- a number of each node that falls along each line, and is below the number of nodes where there are lines
pub record Falls (lines : List (List BillLine)) (rank : ℕ → ℕ) : Type 0 where
  pub falls : (parent child : ℕ) → is_line_between lines parent child ≡ true → rank child < rank parent
  pub within : (parent child : ℕ) → is_line_between lines parent child ≡ true → rank parent < length lines
