-- What a caller of roll-ups may rely on.
use Rattle.std.specs.Prelude.{◌≡◌, ℕ, ◌<◌, ◌≤◌, List, [], ◌∷◌, length}
use Rattle.desk_graph.specs.declared.line.BillLine.{BillLine}
use Rattle.desk_graph.specs.Bill.{IsBillGraph}
use Rattle.desk_graph.specs.Graph.{Graph, lines_of_node}
use Rattle.desk_rollup.specs.Plan.{AreRolledUp, CanPrepare}
use Rattle.desk_rollup.specs.Rolled.{amount, weight}
use Rattle.desk_rollup.specs.Step.{IsStep}
use Rattle.desk_rollup.specs.Values.{KeptValues, OwnValues, amount_of, own_at}

-- values that are right for a bill are right by the children at each node whose lines stay as they are
abbrev pub StaysRight : Type 0
StaysRight = (g : Graph) → IsBillGraph g → (kept : KeptValues) → AreRolledUp g kept → (lines : List (List BillLine)) → (node : ℕ) → node < length kept.rolled →
    lines_of_node lines node ≡ lines_of_node g.lines node → IsStep lines kept node

-- where no node has more of a substance of its own than it weighs, none carries more of it than it weighs
abbrev pub StaysLighter : Type 0
StaysLighter = (g : Graph) → IsBillGraph g → (own : ℕ → OwnValues) → (what : ℕ) → ((node : ℕ) → amount_of (own node).loads what ≤ (own node).weight) →
    (node : ℕ) → amount g.lines own node what ≤ weight g.lines own node

-- no node has more of a substance of its own than it weighs
abbrev pub AreLight : List OwnValues → Type 0
AreLight owns = (node what : ℕ) → amount_of (own_at owns node).loads what ≤ (own_at owns node).weight

-- these own values are of no more of a substance than they weigh
abbrev pub IsLight : OwnValues → Type 0
IsLight own = (what : ℕ) → amount_of own.loads what ≤ own.weight

-- an edit changes the lines of no node but this one, and adds no other
pub record ChangesOne (g new : Graph) (node : ℕ) : Type 0 where
  pub there : node < length new.labels
  pub grows : length g.labels ≤ length new.labels
  pub added : (other : ℕ) → length g.labels ≤ other → other < length new.labels → other ≡ node
  pub lines : (other : ℕ) → (other ≡ node → ⊥) → lines_of_node new.lines other ≡ lines_of_node g.lines other

-- where an edit changes one node, the roll-ups may be prepared with new own values of that node
abbrev pub MayPrepareOne : Type 0
MayPrepareOne = (g new : Graph) → IsBillGraph g → IsBillGraph new → (kept : KeptValues) → AreRolledUp g kept → (own : OwnValues) →
    ChangesOne g new own.node → AreLight kept.owns → IsLight own → CanPrepare new (own ∷ []) kept
