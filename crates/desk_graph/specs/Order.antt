-- What a bill keeps beside what callers see of it: the users of each node, and an order of its nodes in which children come first.
use Rattle.std.specs.Prelude.{◌≡◌, ℕ, ◌+◌, ◌<◌, ◌≤◌, Bool, true, false, not, ◌==◌, List, [], ◌∷◌, ◌++◌, ◌⊎◌, None, filter, length, slice_index}
use Rattle.std.specs.Prelude.{slice_index_or, if◌then◌else◌, nat_lt, count_by}
use Rattle.std.specs.List.{Contains}
use Rattle.std.specs.Option.{option_map_or}
use Rattle.desk_graph.specs.declared.line.BillLine.{BillLine}
use Rattle.desk_graph.specs.Graph.{AreUsers, IsByLabel, has_line, is_line_between, lines_of_node}
use Rattle.desk_graph.specs.Reaches.{chain_of_nodes, has_node, next_node_to}

-- the mark of a node, none where there is no such node
abbrev pub mark_of : List Bool → ℕ → Bool
mark_of marks node = slice_index_or marks node false

-- the node is marked or not, as is asked
abbrev pub has_mark : Bool → List Bool → ℕ → Bool
has_mark true marks node = mark_of marks node
has_mark false marks node = not (mark_of marks node)

-- every node stands in the order, and each behind the nodes that it uses
pub record IsSwept (users : List (List BillLine)) (order : List ℕ) : Type 0 where
  pub size : length order ≡ length users
  pub inside : (node user : ℕ) → has_line (lines_of_node users node) user ≡ true → user < length users
  pub nodes : (place : ℕ) → place < length order → slice_index order place < length users
  pub covers : (node : ℕ) → node < length users → Contains order node
  pub behind : (i j : ℕ) → i ≤ j → j < length order → has_line (lines_of_node users (slice_index order j)) (slice_index order i) ≡ false

-- a test that holds of the marked nodes, and of each user of a node of which it holds
pub record HoldsBelow (holds : ℕ → Bool) (marks : List Bool) (users : List (List BillLine)) : Type 0 where
  pub marked : (node : ℕ) → mark_of marks node ≡ true → holds node ≡ true
  pub used : (node user : ℕ) → holds node ≡ true → has_line (lines_of_node users node) user ≡ true → holds user ≡ true

-- the seeds are marked, the users of a marked node are, and no node is that doesn't have to be
pub record AreMarkedUp (users : List (List BillLine)) (seeds : List ℕ) (marks : List Bool) : Type 0 where
  pub size : length marks ≡ length users
  pub seeded : (node : ℕ) → has_node seeds node ≡ true → mark_of marks node ≡ true
  pub closed : (node user : ℕ) → mark_of marks node ≡ true → has_line (lines_of_node users node) user ≡ true → mark_of marks user ≡ true
  pub least : (holds : ℕ → Bool) → ((node : ℕ) → has_node seeds node ≡ true → holds node ≡ true) →
      ((node user : ℕ) → holds node ≡ true → has_line (lines_of_node users node) user ≡ true → holds user ≡ true) →
      (node : ℕ) → mark_of marks node ≡ true → holds node ≡ true

-- none of the first so many nodes of the order is marked
abbrev pub AreUnmarked : ℕ → List ℕ → List Bool → Type 0
AreUnmarked first order marks = (place : ℕ) → place < first → mark_of marks (slice_index order place) ≡ false

-- no node of the order is marked at this place or behind it
abbrev pub AreUnmarkedFrom : ℕ → List ℕ → List Bool → Type 0
AreUnmarkedFrom end order marks = (place : ℕ) → end ≤ place → place < length order → mark_of marks (slice_index order place) ≡ false

-- no number stands in the list twice
abbrev pub HasNoneTwice : List ℕ → Type 0
HasNoneTwice nodes = (node : ℕ) → count_by (λ other. other == node) nodes ≤ 1

-- so many nodes at most are marked besides
abbrev pub MarksAtMost : ℕ → List Bool → List Bool → Type 0
MarksAtMost more old new = (nodes : List ℕ) → HasNoneTwice nodes → count_by (has_mark true new) nodes ≤ count_by (has_mark true old) nodes + more

-- none of the first so many nodes of the order is one of these
abbrev pub AreBehind : ℕ → List ℕ → List ℕ → Type 0
AreBehind first order nodes = (place : ℕ) → place < first → has_node nodes (slice_index order place) ≡ false

-- the seeds, and the nodes from which lines lead to one, in their order
abbrev pub AreSweptUp : List (List BillLine) → List ℕ → List ℕ → List ℕ → Type 0
AreSweptUp users order seeds nodes =
    (marks : List Bool) × AreMarkedUp users seeds marks × (nodes ≡ filter (has_mark true marks) order)

-- the users of each node are those of the lines, in the order of their labels, as the lines of each node are
pub record AreBothEnds (labels : List (List ℕ)) (lines users : List (List BillLine)) : Type 0 where
  pub lines_size : length lines ≡ length labels
  pub users_size : length users ≡ length labels
  pub agree : (child : ℕ) → AreUsers lines child (lines_of_node users child)
  pub by_label : (node : ℕ) → IsByLabel labels (lines_of_node lines node)
  pub by_user : (node : ℕ) → IsByLabel labels (lines_of_node users node)

-- the list has each number below its length once, and no other
abbrev pub HasOnce : List ℕ → Type 0
HasOnce nodes = (node : ℕ) → count_by (λ other. other == node) nodes ≡ (if nat_lt node (length nodes) then 1 else 0)

-- the order has each node once, and no node before a child of it
pub record IsInOrder (lines : List (List BillLine)) (order : List ℕ) : Type 0 where
  pub size : length order ≡ length lines
  pub once : HasOnce order
  pub children_first : (i j : ℕ) → i ≤ j → j < length order → is_line_between lines (slice_index order i) (slice_index order j) ≡ false

-- the second node stands nowhere at or before the first
abbrev pub StandsBefore : List ℕ → ℕ → ℕ → Type 0
StandsBefore order first second = (i j : ℕ) → i ≤ j → j < length order → slice_index order i ≡ second → slice_index order j ≡ first → ⊥

-- the node and all from which lines lead to it went behind all other nodes, each of the two parts in its old order
abbrev pub IsMovedBehind : List (List BillLine) → ℕ → List ℕ → List ℕ → Type 0
IsMovedBehind users node old new =
    (marks : List Bool) × AreMarkedUp users (node ∷ []) marks × (new ≡ filter (has_mark false marks) old ++ filter (has_mark true marks) old)

-- the child stood before the parent, or the parent went behind
abbrev pub HasMadeWay : List (List BillLine) → ℕ → ℕ → List ℕ → List ℕ → Type 0
HasMadeWay users parent child old new = ((new ≡ old) × StandsBefore old child parent) ⊎ IsMovedBehind users parent old new

-- the chain to the target goes from each node to the next, and ends at the target
abbrev pub GoesByNext : List (List BillLine) → ℕ → Type 0
GoesByNext lines target = (node : ℕ) →
    chain_of_nodes lines node target ≡ node ∷ option_map_or (λ child. chain_of_nodes lines child target) (if node == target then None else next_node_to lines node target) []
