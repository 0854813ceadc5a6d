-- What a sweep over the affected nodes goes by.
use Rattle.std.specs.Prelude.{◌≡◌, ℕ, ◌<◌, List, Option, Some, None, length, map, slice_index, if◌then◌else◌}
use Rattle.desk_graph.specs.declared.line.BillLine.{BillLine}
use Rattle.desk_graph.specs.Bill.{IsBillGraph}
use Rattle.std.specs.Ordering.{is_lt}
use Rattle.desk_graph.specs.Graph.{Graph, label_cmp, label_of, lines_of_node}
use Rattle.desk_graph.specs.Reaches.{AreAffected, AreChildrenFirst}
use Rattle.desk_rollup.specs.Places.{ArePlaced, Placed}
use Rattle.desk_rollup.specs.Plan.{AllFit, CanPrepare, IsFirstTooLarge, nodes_of_owns}
use Rattle.desk_rollup.specs.Rolled.{IsRolled}
use Rattle.desk_rollup.specs.Values.{DoFit, KeptValues, OwnValues, RolledValues, own_with, rolled_at}

-- the new own values go with the bill and with what is kept, the places are those of their nodes and of the affected nodes, children
-- first, the lines are those of the affected nodes, and no weight that is kept is 2^128 or more
pub record IsSweep (g : Graph) (owns : List OwnValues) (kept : KeptValues) (of_owns placed : Placed) (lists : List (List BillLine)) : Type 0 where
  pub bill : IsBillGraph g
  pub can : CanPrepare g owns kept
  pub owns_size : length kept.owns ≡ length kept.rolled
  pub fit : DoFit kept.rolled
  pub own_nodes : of_owns.nodes ≡ nodes_of_owns owns
  pub own_places : ArePlaced of_owns
  pub places : ArePlaced placed
  pub affected : AreAffected g.lines (nodes_of_owns owns) placed.nodes
  pub children_first : AreChildrenFirst g.lines placed.nodes
  pub lines_are : lists ≡ map (lines_of_node g.lines) placed.nodes

-- the values are those of the nodes
abbrev pub AreRolledOf : Graph → List OwnValues → KeptValues → List ℕ → List RolledValues → Type 0
AreRolledOf g owns kept nodes rolled =
    (place : ℕ) → place < length nodes → IsRolled g.lines (own_with owns kept.owns) (slice_index nodes place) (rolled_at rolled place)

-- the node is the first that is too large, or there is none
abbrev pub IsTooLargeOr : Graph → (ℕ → OwnValues) → Option ℕ → Type 0
IsTooLargeOr g own None = AllFit g own
IsTooLargeOr g own (Some node) = IsFirstTooLarge g own node

-- of the first of two nodes, if there is one, and of the second, if it has no weight that fits, the one with the lesser label
abbrev pub lesser_of : List (List ℕ) → Option ℕ → ℕ → Option ℕ → Option ℕ
lesser_of labels first node (Some weight) = first
lesser_of labels None node None = Some node
lesser_of labels (Some other) node None = if is_lt (label_cmp (label_of labels node) (label_of labels other)) then Some node else Some other
