-- What the kept values of a node are, and the start from nothing.
use Rattle.std.proofs.Common.{◌≡◌, ℕ, ◌<◌, List, [], length, sym, ◌∙◌, arith}
use Rattle.std.specs.Prelude.{nat_lt}
use Rattle.std.proofs.lemmas.Bool.{lt-ltb, ltb-true}
use Rattle.desk_graph.specs.Graph.{Graph, label_of}
use Rattle.desk_graph.specs.Reaches.{has_node}
use Rattle.desk_rollup.proofs.MarkCount.{hop_count}
use Rattle.desk_rollup.proofs.Rolls.{carried_is, has_marks}
use Rattle.desk_rollup.specs.Plan.{AreDistinct, AreRolledUp, CanPrepare, nodes_of_owns}
use Rattle.desk_rollup.specs.Values.{KeptValues, OwnValues, amount_of, own_at, own_with, rolled_at}
use Rattle.desk_model.specs.Lists.{Lists}
use Rattle.desk_findings.specs.Carried.{own_load}
use Rattle.desk_findings.specs.Findings.{Finding}
use Rattle.desk_findings.specs.Mass.{own_mass}
use Rattle.desk_findings.proofs.Loads.{carried-le}
use Rattle.desk_bridge.specs.Values.{AreValuesOf, HasOwnValues}
use Rattle.desk_bridge.proofs.RolledAlike.{marked, rolled_agree}
use Rattle.desk_bridge.proofs.Bridges.{right_tables}
use Rattle.desk_bridge.proofs.Hops.{marks_as_many}

pub values_of : (t : Lists) (g : Graph) (number : Finding → ℕ) (name : ℕ → List ℕ) (kept : KeptValues) → HasOwnValues t g number name (own_at kept.owns) → AreRolledUp g kept → (node : ℕ) → node < length g.labels → AreValuesOf t g number name kept node
values_of t g number name kept is rolled node inside =
    let right = right_tables t is.consistent in
    let values = rolled_at kept.rolled node in
    let own = own_at kept.owns in
    let here = rolled.rolled node inside in record {
      weight = here.weight ∙ rolled_agree t right g is.bridge (λ n. (own_at kept.owns n).weight) (own_mass t) (λ n at. (is.owns n at).weight) node inside;
      found = λ n.
          has_marks g.lines is.bridge.bill.ranked.0 is.bridge.bill.ranked.1 (own_at kept.owns) node (rolled_at kept.rolled node) here n
          ∙ marked t right g is.bridge is.consistent.ordered number (own_at kept.owns) (λ m at. (is.owns m at).marks) node inside n;
      as_many =
          hop_count g.lines is.bridge.bill.ranked.0 is.bridge.bill.ranked.1 (own_at kept.owns) node (rolled_at kept.rolled node) here
          ∙ marks_as_many t right g is.bridge is.consistent.ordered number is.numbered (own_at kept.owns) (λ m at. (is.owns m at).marks) node inside;
      loads = λ n.
          carried_is g.lines is.bridge.bill.ranked.0 is.bridge.bill.ranked.1 (own_at kept.owns) node (rolled_at kept.rolled node) here n
          ∙ rolled_agree t right g is.bridge (λ m. amount_of (own_at kept.owns m).loads n) (own_load t (name n)) (λ m at. (is.owns m at).loads n) node inside;
    }

pub start_prepared : (t : Lists) (g : Graph) (number : Finding → ℕ) (name : ℕ → List ℕ) (owns : List OwnValues) → HasOwnValues t g number name (own_with owns []) →
    AreDistinct (nodes_of_owns owns) → ((node : ℕ) → has_node (nodes_of_owns owns) node ≡ nat_lt node (length g.labels)) →
    CanPrepare g owns (record { owns = []; rolled = [] })
start_prepared t g number name owns is distinct all =
    let right = right_tables t is.consistent in record {
      distinct = distinct;
      nodes = λ node e. ltb-true node (length g.labels) (sym (all node) ∙ e);
      kept_nodes = omega arith;
      new_nodes = λ node past inside. all node ∙ lt-ltb node (length g.labels) inside;
      steps = λ node there other. absurd (omega (arith, there));
      lighter = λ node what inside.
          let carries = rolled_agree t right g is.bridge (λ n. amount_of (own_with owns [] n).loads what) (own_load t (name what)) (λ n at. (is.owns n at).loads what) node inside in
          let weighs = rolled_agree t right g is.bridge (λ n. (own_with owns [] n).weight) (own_mass t) (λ n at. (is.owns n at).weight) node inside in
          omega (arith, carries, weighs, carried-le t right.children right.apart is.consistent.contents_fit right.acyclic (name what) (label_of g.labels node));
    }
