-- A bill is that of tables where the look-ups of lines agree: lists in one order with equal look-ups are equal.
use Rattle.std.specs.Prelude.{◌≡◌, ℕ, ◌<◌, List, Option, Some, None, length, option_map}
use Rattle.desk_graph.specs.Bill.{IsBillGraph}
use Rattle.desk_graph.specs.Graph.{Graph, count_at, label_of, lines_of_node as node_lines}
use Rattle.desk_model.specs.declared.edit.Edit.TheVariants.{Line, Unline}
use Rattle.desk_model.specs.Effect.{with_edit_entered}
use Rattle.desk_model.specs.Lists.{Lists, line_row}
use Rattle.desk_history.specs.History.{PassesRows}
use Rattle.desk_history.specs.Sound.{IsConsistent}
use Rattle.desk_findings.specs.Numbering.{AreLabels}
use Rattle.desk_bridge.specs.Bridge.{IsBridge}

-- the lines of the nodes are looked up as those of their codes
abbrev pub DoLookUpsAgree : Lists → Graph → Type 0
DoLookUpsAgree t g = (node child : ℕ) → node < length g.labels → child < length g.labels →
    count_at (node_lines g.lines node) child ≡ option_map (λ line. line.count) (line_row t (label_of g.labels node) (label_of g.labels child))

-- one line of a bill is changed, to this count or to none: no node, and no other line
pub record ChangesLine (g new : Graph) (parent child : ℕ) (count : Option ℕ) : Type 0 where
  pub bill : IsBillGraph new
  pub labels : new.labels ≡ g.labels
  pub parent_there : parent < length g.labels
  pub child_there : child < length g.labels
  pub here : count_at (node_lines new.lines parent) child ≡ count
  pub beside : (other : ℕ) → (other ≡ child → ⊥) → count_at (node_lines new.lines parent) other ≡ count_at (node_lines g.lines parent) other
  pub away : (node : ℕ) → (node ≡ parent → ⊥) → node_lines new.lines node ≡ node_lines g.lines node

-- a bill is that of tables exactly where the look-ups agree, and so a line that is put in or taken out keeps it
pub record BridgesByLookUp : Type 0 where
  pub from : (t : Lists) → IsConsistent t → (g : Graph) → IsBillGraph g → AreLabels t g.labels → DoLookUpsAgree t g → IsBridge t g
  pub into : (t : Lists) (g : Graph) → IsBridge t g → DoLookUpsAgree t g
  pub line : (t : Lists) → IsConsistent t → (g new : Graph) → IsBridge t g → (ticket : List ℕ) (parent child count : ℕ) →
      PassesRows t (Line ticket (label_of g.labels parent) (label_of g.labels child) count) → ChangesLine g new parent child (Some count) →
      IsBridge (with_edit_entered t (Line ticket (label_of g.labels parent) (label_of g.labels child) count)) new
  pub unline : (t : Lists) → IsConsistent t → (g new : Graph) → IsBridge t g → (ticket : List ℕ) (parent child : ℕ) →
      PassesRows t (Unline ticket (label_of g.labels parent) (label_of g.labels child)) → ChangesLine g new parent child None →
      IsBridge (with_edit_entered t (Unline ticket (label_of g.labels parent) (label_of g.labels child))) new
