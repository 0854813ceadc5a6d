-- What roll-ups tell: which rules of sums are broken, and what each node has.
use Rattle.std.specs.Prelude.{◌≡◌, ℕ, ◌<◌, List, [], Some, None, length, nat_lt}
use Rattle.desk_graph.specs.Graph.{Graph, label_of}
use Rattle.desk_graph.specs.Reaches.{has_node}
use Rattle.desk_rollup.specs.Numbers.{has, hop_numbers}
use Rattle.desk_rollup.specs.Plan.{AllFit, AreDistinct, AreRolledUp, CanPrepare, IsFirstTooLarge, nodes_of_owns}
use Rattle.desk_rollup.specs.Rolled.{mark_count}
use Rattle.desk_rollup.specs.Values.{KeptValues, OwnValues, carried_by_node as node_carried, own_at, own_with, rolled_at}
use Rattle.desk_model.specs.Lists.{Lists}
use Rattle.desk_findings.specs.Carried.{carried}
use Rattle.desk_findings.specs.Findings.{Finding, findings_at}
use Rattle.desk_findings.specs.Mass.{mass}
use Rattle.desk_findings.specs.Totals.{has_too_many_findings, too_heavy_part}
use Rattle.desk_history.specs.Sound.{IsConsistent}
use Rattle.desk_findings.specs.Numbering.{AreNumbered, has_numbered}
use Rattle.desk_bridge.specs.Bridge.{IsBridge}
use Rattle.desk_bridge.specs.AfterEdit.{AreOwnOf}

-- the bill is that of consistent tables, and these are the own values of its nodes
pub record HasOwnValues (t : Lists) (g : Graph) (number : Finding → ℕ) (name : ℕ → List ℕ) (own : ℕ → OwnValues) : Type 0 where
  pub consistent : IsConsistent t
  pub bridge : IsBridge t g
  pub numbered : AreNumbered t number
  pub owns : AreOwnOf t g number name own

-- the first node that is too large is the part that is told, and there are too many marks where there are too many findings
pub record RefusalsAgree : Type 0 where
  pub large : (t : Lists) (g : Graph) (number : Finding → ℕ) (name : ℕ → List ℕ) (own : ℕ → OwnValues) → HasOwnValues t g number name own →
      (node : ℕ) → IsFirstTooLarge g own node → too_heavy_part t ≡ Some (label_of g.labels node)
  pub fit : (t : Lists) (g : Graph) (number : Finding → ℕ) (name : ℕ → List ℕ) (own : ℕ → OwnValues) → HasOwnValues t g number name own →
      AllFit g own → too_heavy_part t ≡ None
  pub many : (t : Lists) (g : Graph) (number : Finding → ℕ) (name : ℕ → List ℕ) (own : ℕ → OwnValues) → HasOwnValues t g number name own →
      has_too_many_findings t ≡ nat_lt 4194304 (mark_count g.lines own)

-- these values are those of a code
pub record AreValuesOf (t : Lists) (g : Graph) (number : Finding → ℕ) (name : ℕ → List ℕ) (kept : KeptValues) (node : ℕ) : Type 0 where
  pub weight : (rolled_at kept.rolled node).weight ≡ mass t (label_of g.labels node)
  pub found : (n : ℕ) → has (hop_numbers (rolled_at kept.rolled node).hops) n ≡ has_numbered number (findings_at t (label_of g.labels node)) n
  pub as_many : length (rolled_at kept.rolled node).hops ≡ length (findings_at t (label_of g.labels node))
  pub loads : (n : ℕ) → node_carried (rolled_at kept.rolled node).loads n ≡ carried t (name n) (label_of g.labels node)

-- the kept values of a node are those of its code
abbrev pub ValuesTell : Type 0
ValuesTell = (t : Lists) (g : Graph) (number : Finding → ℕ) (name : ℕ → List ℕ) (kept : KeptValues) → HasOwnValues t g number name (own_at kept.owns) → AreRolledUp g kept →
    (node : ℕ) → node < length g.labels → AreValuesOf t g number name kept node

-- from nothing the roll-ups may be prepared with the own values of all nodes
abbrev pub StartIsPrepared : Type 0
StartIsPrepared = (t : Lists) (g : Graph) (number : Finding → ℕ) (name : ℕ → List ℕ) (owns : List OwnValues) → HasOwnValues t g number name (own_with owns []) →
    AreDistinct (nodes_of_owns owns) → ((node : ℕ) → has_node (nodes_of_owns owns) node ≡ nat_lt node (length g.labels)) →
    CanPrepare g owns (record { owns = []; rolled = [] })
