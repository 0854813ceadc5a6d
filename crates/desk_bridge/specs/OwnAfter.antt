-- Own values of several nodes.
use Rattle.std.specs.Prelude.{◌≡◌, ℕ, Bool, true, false, not, ◌&&◌, List}
use Rattle.desk_text.specs.Code.{same_code}
use Rattle.desk_graph.specs.Graph.{Graph, label_of}
use Rattle.desk_graph.specs.Reaches.{has_node}
use Rattle.desk_rollup.specs.Plan.{nodes_of_owns}
use Rattle.desk_rollup.specs.Values.{OwnValues, own_with}
use Rattle.desk_model.specs.declared.edit.Edit.{Edit}
use Rattle.desk_model.specs.declared.edit.Edit.TheVariants.{Line, Unline}
use Rattle.desk_model.specs.Effect.{with_edit_entered}
use Rattle.desk_model.specs.Lists.{Lists}
use Rattle.desk_findings.specs.Articles.{is_assembly}
use Rattle.desk_bridge.specs.AfterEdit.{AreRenewed, IsOwnOf}
use Rattle.desk_bridge.specs.Numbers.{finding_number}

-- these are own values of these nodes, in their order, and right by these tables
pub record AreOwnAt (t : Lists) (labels names : List (List ℕ)) (nodes : List ℕ) (owns : List OwnValues) : Type 0 where
  pub these : nodes_of_owns owns ≡ nodes
  pub right : (kept : List OwnValues) (node : ℕ) → has_node nodes node ≡ true →
      IsOwnOf t (finding_number labels names) (label_of names) (label_of labels node) (own_with owns kept node)

-- the edit enters or takes out a line of the part
abbrev pub changes_lines : Edit → List ℕ → Bool
changes_lines (Line ticket parent child count) part = same_code parent part
changes_lines (Unline ticket parent child) part = same_code parent part
changes_lines _ part = false

-- an assembly whose lines the edit leaves: it has nothing of its own before and after it
abbrev pub stays_assembly : Lists → Edit → List ℕ → Bool
stays_assembly t edit code = is_assembly t code && not (changes_lines edit code)

-- these are the own values that an edit asks for, and right by the tables after it
pub record AreOwnAfter (t : Lists) (edit : Edit) (g : Graph) (names : List (List ℕ)) (owns : List OwnValues) : Type 0 where
  pub renewed : AreRenewed t edit g (nodes_of_owns owns)
  pub right : (kept : List OwnValues) (node : ℕ) → has_node (nodes_of_owns owns) node ≡ true →
      IsOwnOf (with_edit_entered t edit) (finding_number g.labels names) (label_of names) (label_of g.labels node) (own_with owns kept node)
