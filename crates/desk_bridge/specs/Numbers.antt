-- Numbers of findings: by the node that holds it, and by the rule or the number of the substance. Both lists only grow at their ends.
use Rattle.std.specs.Prelude.{◌≡◌, ℕ, ◌+◌, ◌*◌, ◌≤◌, true, false, List, [], ◌++◌, length}
use Rattle.std.specs.List.{AllByRecursion, list_any}
use Rattle.desk_text.specs.Code.{same_code}
use Rattle.desk_law.specs.Rule.{rule_number}
use Rattle.desk_graph.specs.Graph.{Graph, label_of}
use Rattle.desk_graph.specs.Reaches.{has_node}
use Rattle.desk_rollup.specs.Plan.{CanPrepare, nodes_of_owns}
use Rattle.desk_rollup.specs.Values.{KeptValues, OwnValues, own_at, own_with}
use Rattle.desk_model.specs.declared.edit.Edit.{Edit}
use Rattle.desk_model.specs.Effect.{with_edit_entered}
use Rattle.desk_model.specs.Lists.{Lists}
use Rattle.desk_findings.specs.Above.{is_candidate}
use Rattle.desk_findings.specs.Findings.{Finding, above, over}
use Rattle.desk_history.specs.Sound.{IsConsistent}
use Rattle.desk_findings.specs.Numbering.{AreLabels, AreNumbered}
use Rattle.desk_bridge.specs.AfterEdit.{AreOwnOf, IsEdited, IsOwnOf}
use Rattle.desk_bridge.specs.Bridge.{IsBridge, place_of}
use Rattle.desk_bridge.specs.Values.{HasOwnValues}

-- the number of a finding
abbrev pub finding_number : List (List ℕ) → List (List ℕ) → Finding → ℕ
finding_number labels names (over material rule) = place_of labels material * 4294967296 + rule_number rule
finding_number labels names (above article substance) = place_of labels article * 4294967296 + place_of names substance

-- the list names each candidate, and no more substances than there are numbers; and no candidate is without a name
pub record AreNames (t : Lists) (names : List (List ℕ)) : Type 0 where
  pub named : (substance : List ℕ) → is_candidate t substance ≡ true → list_any (λ listed. same_code listed substance) names ≡ true
  pub few : length names ≤ 4294967296
  pub nameless : is_candidate t [] ≡ false

-- different findings have different numbers; and own values stay those of their codes where the lists grow
pub record NumbersServe : Type 0 where
  pub differ : (t : Lists) → IsConsistent t → (labels names : List (List ℕ)) → AreLabels t labels → AreNames t names → AreNumbered t (finding_number labels names)
  pub grow : (t : Lists) → IsConsistent t → (g : Graph) → IsBridge t g → (names : List (List ℕ)) → AreNames t names → (more others : List (List ℕ)) →
      AllByRecursion (λ substance. is_candidate t substance ≡ false) others → (own : ℕ → OwnValues) →
      AreOwnOf t g (finding_number g.labels names) (label_of names) own → AreOwnOf t g (finding_number (g.labels ++ more) (names ++ others)) (label_of (names ++ others)) own

-- an edit, with new own values of the nodes that it affects, but for assemblies whose lines stay: the roll-ups may be prepared, and all own
-- values are right then
abbrev pub EditsKeepValues : Type 0
EditsKeepValues = (t : Lists) (edit : Edit) (g new : Graph) (kept : KeptValues) (owns : List OwnValues) → IsEdited t edit g new kept owns →
    (more : List (List ℕ)) → new.labels ≡ g.labels ++ more → (names others : List (List ℕ)) → AreNames t names → AreNames (with_edit_entered t edit) (names ++ others) →
    AllByRecursion (λ substance. is_candidate t substance ≡ false) others →
    AreOwnOf t g (finding_number g.labels names) (label_of names) (own_at kept.owns) →
    ((node : ℕ) → has_node (nodes_of_owns owns) node ≡ true → IsOwnOf (with_edit_entered t edit) (finding_number new.labels (names ++ others)) (label_of (names ++ others)) (label_of new.labels node) (own_with owns kept.owns node)) →
    CanPrepare new owns kept × HasOwnValues (with_edit_entered t edit) new (finding_number new.labels (names ++ others)) (label_of (names ++ others)) (own_with owns kept.owns)
