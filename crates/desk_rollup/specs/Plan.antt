-- What new own values make of the roll-ups, and when they are refused.
use Rattle.std.specs.Prelude.{◌≡◌, ℕ, ◌<◌, ◌≤◌, ◌^◌, true, false, List, [], ◌∷◌, Option, Some, None, length, map, slice_index}
use Rattle.std.specs.Ordering.{is_lt}
use Rattle.desk_graph.specs.Graph.{Graph, label_cmp, label_of}
use Rattle.desk_graph.specs.Reaches.{AreAffected, has_node}
use Rattle.desk_rollup.specs.declared.fault.RollFault.{RollFault}
use Rattle.desk_rollup.specs.declared.fault.RollFault.TheVariants.{WeightTooLarge, MarksFull, OutOfMemory}
use Rattle.desk_rollup.specs.Rolled.{IsRolled, amount, mark_count, weight}
use Rattle.desk_rollup.specs.Step.{IsStep}
use Rattle.desk_rollup.specs.Values.{KeptValues, OwnValues, RolledValues, own_at, own_with, rolled_at}

-- what is to be put in: new own values of nodes, and the values of the nodes that they replace, of so many nodes in all
pub record PlannedValues : Type 0 where
  pub count : ℕ
  pub owns : List OwnValues
  pub nodes : List ℕ
  pub rolled : List RolledValues

-- the nodes of these own values
abbrev pub nodes_of_owns : List OwnValues → List ℕ
nodes_of_owns owns = map (λ own. own.node) owns

-- no node stands there twice
abbrev pub AreDistinct : List ℕ → Type 0
AreDistinct [] = Unit {0}
AreDistinct (node ∷ nodes) = (has_node nodes node ≡ false) × AreDistinct nodes

-- the new own values go with the bill and with what is kept: they are of distinct nodes of the bill, every node that has values is one of
-- it, a node that has none gets own values, the values of every other node are right by those of its children, and no node carries more
-- than it weighs
pub record CanPrepare (g : Graph) (owns : List OwnValues) (kept : KeptValues) : Type 0 where
  pub distinct : AreDistinct (nodes_of_owns owns)
  pub nodes : (node : ℕ) → has_node (nodes_of_owns owns) node ≡ true → node < length g.labels
  pub kept_nodes : length kept.rolled ≤ length g.labels
  pub new_nodes : (node : ℕ) → length kept.rolled ≤ node → node < length g.labels → has_node (nodes_of_owns owns) node ≡ true
  pub steps : (node : ℕ) → node < length kept.rolled → has_node (nodes_of_owns owns) node ≡ false → IsStep g.lines kept node
  pub lighter : (node what : ℕ) → node < length g.labels → amount g.lines (own_with owns kept.owns) node what ≤ weight g.lines (own_with owns kept.owns) node

-- no node weighs 2^128 or more
abbrev pub AllFit : Graph → (ℕ → OwnValues) → Type 0
AllFit g own = (node : ℕ) → node < length g.labels → weight g.lines own node < 2 ^ 128

-- the node weighs 2^128 or more, and none that does has a lesser label
pub record IsFirstTooLarge (g : Graph) (own : ℕ → OwnValues) (node : ℕ) : Type 0 where
  pub there : node < length g.labels
  pub large : 2 ^ 128 ≤ weight g.lines own node
  pub least : (other : ℕ) → other < length g.labels → 2 ^ 128 ≤ weight g.lines own other →
      is_lt (label_cmp (label_of g.labels other) (label_of g.labels node)) ≡ false

-- nothing is too large, and the nodes that have lines have no more marks than there may be
pub record IsWithinLimits (g : Graph) (own : ℕ → OwnValues) : Type 0 where
  pub fit : AllFit g own
  pub count : mark_count g.lines own ≤ 4194304

-- why the values are refused: a weight is too large, or none is and there are too many marks
abbrev pub IsRefused : Graph → (ℕ → OwnValues) → RollFault → Type 0
IsRefused g own (WeightTooLarge node) = IsFirstTooLarge g own node
IsRefused g own MarksFull = AllFit g own × (4194304 < mark_count g.lines own)
IsRefused g own OutOfMemory = Unit {0}

-- the plan is one of this bill and of what is kept: it has the values of just the nodes that are given own values or reach one that is,
-- each once, these are nodes of the bill, as are all that have values, and the values of the others stay right
pub record IsRollPlan (g : Graph) (owns : List OwnValues) (kept : KeptValues) (plan : PlannedValues) : Type 0 where
  pub count : plan.count ≡ length g.labels
  pub given : plan.owns ≡ owns
  pub affected : AreAffected g.lines (nodes_of_owns owns) plan.nodes
  pub inside : (node : ℕ) → has_node plan.nodes node ≡ true → node < plan.count
  pub distinct : AreDistinct (nodes_of_owns owns)
  pub own_nodes : (node : ℕ) → has_node (nodes_of_owns owns) node ≡ true → node < plan.count
  pub kept_nodes : length kept.rolled ≤ plan.count
  pub sizes : length plan.rolled ≡ length plan.nodes
  pub replaced : (place : ℕ) → place < length plan.nodes →
      IsRolled g.lines (own_with owns kept.owns) (slice_index plan.nodes place) (rolled_at plan.rolled place)
  pub stays : (node : ℕ) → node < length g.labels → has_node plan.nodes node ≡ false →
      IsRolled g.lines (own_with owns kept.owns) node (rolled_at kept.rolled node)

-- the values of every node of the bill are kept, and are right
pub record AreRolledUp (g : Graph) (kept : KeptValues) : Type 0 where
  pub owns_size : length kept.owns ≡ length g.labels
  pub rolled_size : length kept.rolled ≡ length g.labels
  pub rolled : (node : ℕ) → node < length g.labels → IsRolled g.lines (own_at kept.owns) node (rolled_at kept.rolled node)

-- the values are those that the plan has of the node, or there are none
abbrev pub IsPlannedOf : PlannedValues → ℕ → Option RolledValues → Type 0
IsPlannedOf plan node None = has_node plan.nodes node ≡ false
IsPlannedOf plan node (Some values) =
    (place : ℕ) × (place < length plan.nodes) × (slice_index plan.nodes place ≡ node) × (values ≡ rolled_at plan.rolled place)
