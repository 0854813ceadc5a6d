-- The roll-ups beside the tables: what nodes have is what their codes have.
use Rattle.std.specs.Prelude.{◌≡◌, ℕ, ◌<◌, List, true, length, map, option_map}
use Rattle.desk_graph.specs.Graph.{Graph, label_of}
use Rattle.desk_rollup.specs.Chain.{hop_chain as node_chain, next_hop as node_next}
use Rattle.desk_rollup.specs.Numbers.{has, mark_numbers}
use Rattle.desk_rollup.specs.Plan.{AreRolledUp}
use Rattle.desk_rollup.specs.Rolled.{amount, mark_count, mark_numbers_below, weight}
use Rattle.desk_rollup.specs.Values.{KeptValues, OwnValues, amount_of, own_at}
use Rattle.desk_model.specs.Lists.{IsOrdered, Lists}
use Rattle.desk_findings.specs.Carried.{carried, own_load}
use Rattle.desk_findings.specs.Chain.{chain}
use Rattle.desk_findings.specs.Findings.{Finding, finding_count, findings_at, is_in, own_findings}
use Rattle.desk_findings.specs.Mass.{mass, own_mass}
use Rattle.desk_findings.specs.Bill.{IsRight}
use Rattle.desk_findings.specs.Holders.{holder, next_of}
use Rattle.desk_findings.specs.Numbering.{AreNumbered, has_numbered}
use Rattle.desk_bridge.specs.Bridge.{IsBridge}

-- the marks of each node are the numbers of the findings that its code has as its own
abbrev pub AreOwnMarks : Lists → Graph → (Finding → ℕ) → (ℕ → OwnValues) → Type 0
AreOwnMarks t g number own = (node : ℕ) → node < length g.labels → (n : ℕ) →
    has (mark_numbers (own node).marks) n ≡ has_numbered number (own_findings t (label_of g.labels node)) n

-- what rolls up in the bill is what rolls up in the tables: masses, loads, findings, how many they are, and the ways to them
pub record RollUpsAgree : Type 0 where
  pub weights : (t : Lists) → IsRight t → (g : Graph) → IsBridge t g → (own : ℕ → OwnValues) →
      ((node : ℕ) → node < length g.labels → (own node).weight ≡ own_mass t (label_of g.labels node)) →
      (node : ℕ) → node < length g.labels → weight g.lines own node ≡ mass t (label_of g.labels node)
  pub amounts : (t : Lists) → IsRight t → (g : Graph) → IsBridge t g → (own : ℕ → OwnValues) (what : ℕ) (substance : List ℕ) →
      ((node : ℕ) → node < length g.labels → amount_of (own node).loads what ≡ own_load t substance (label_of g.labels node)) →
      (node : ℕ) → node < length g.labels → amount g.lines own node what ≡ carried t substance (label_of g.labels node)
  pub marked : (t : Lists) → IsOrdered t → IsRight t → (g : Graph) → IsBridge t g → (number : Finding → ℕ) (own : ℕ → OwnValues) → AreOwnMarks t g number own →
      (node : ℕ) → node < length g.labels → (n : ℕ) → has (mark_numbers_below g.lines own node) n ≡ has_numbered number (findings_at t (label_of g.labels node)) n
  pub as_many : (t : Lists) → IsOrdered t → IsRight t → (g : Graph) → IsBridge t g → (number : Finding → ℕ) → AreNumbered t number → (own : ℕ → OwnValues) → AreOwnMarks t g number own →
      (node : ℕ) → node < length g.labels → length (mark_numbers_below g.lines own node) ≡ length (findings_at t (label_of g.labels node))
  pub counted : (t : Lists) → IsOrdered t → IsRight t → (g : Graph) → IsBridge t g → (number : Finding → ℕ) → AreNumbered t number → (own : ℕ → OwnValues) → AreOwnMarks t g number own →
      mark_count g.lines own ≡ finding_count t
  pub next : (t : Lists) → IsOrdered t → IsRight t → (g : Graph) → IsBridge t g → (number : Finding → ℕ) → AreNumbered t number → (kept : KeptValues) → AreRolledUp g kept → AreOwnMarks t g number (own_at kept.owns) →
      (finding : Finding) (node : ℕ) → node < length g.labels → is_in finding (findings_at t (label_of g.labels node)) ≡ true →
      option_map (label_of g.labels) (node_next kept.rolled (number finding) node) ≡ next_of t finding (label_of g.labels node)
  pub chains : (t : Lists) → IsOrdered t → IsRight t → (g : Graph) → IsBridge t g → (number : Finding → ℕ) → AreNumbered t number → (kept : KeptValues) → AreRolledUp g kept → AreOwnMarks t g number (own_at kept.owns) →
      (finding : Finding) (node : ℕ) → node < length g.labels → is_in finding (findings_at t (label_of g.labels node)) ≡ true →
      map (label_of g.labels) (node_chain kept.rolled (number finding) node) ≡ chain t (label_of g.labels node) (holder finding)
