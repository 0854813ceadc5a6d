-- What an edit makes of the values of the bill: which nodes it affects, that own values that aren't made anew stay right, and that the
-- roll-ups may be prepared.
use Rattle.std.specs.Prelude.{◌≡◌, ℕ, ◌<◌, ◌≤◌, List, true, false, length}
use Rattle.std.specs.List.{list_any}
use Rattle.desk_text.specs.Code.{same_code}
use Rattle.desk_graph.specs.Graph.{Graph, label_of}
use Rattle.desk_graph.specs.Reaches.{has_node, is_node_affected as is_affected_node}
use Rattle.desk_rollup.specs.Numbers.{has, mark_numbers}
use Rattle.desk_rollup.specs.Plan.{AreDistinct, AreRolledUp, CanPrepare, nodes_of_owns}
use Rattle.desk_rollup.specs.Values.{KeptValues, OwnValues, amount_of, own_at, own_with}
use Rattle.desk_model.specs.declared.edit.Edit.{Edit}
use Rattle.desk_model.specs.Effect.{with_edit_entered}
use Rattle.desk_model.specs.Lists.{Lists, is_kept}
use Rattle.desk_findings.specs.Carried.{own_load}
use Rattle.desk_findings.specs.Findings.{Finding, own_findings}
use Rattle.desk_findings.specs.Mass.{own_mass}
use Rattle.desk_findings.specs.Reaches.{lines_of}
use Rattle.desk_history.specs.Affected.{is_affected, seeds_of_new}
use Rattle.desk_history.specs.History.{PassesRows}
use Rattle.desk_history.specs.Sound.{IsConsistent}
use Rattle.desk_findings.specs.Numbering.{has_numbered}
use Rattle.desk_bridge.specs.Bridge.{IsBridge}

-- these are the own values of a code, where a number names a substance and findings have numbers
pub record IsOwnOf (t : Lists) (number : Finding → ℕ) (name : ℕ → List ℕ) (code : List ℕ) (own : OwnValues) : Type 0 where
  pub weight : own.weight ≡ own_mass t code
  pub marks : (n : ℕ) → has (mark_numbers own.marks) n ≡ has_numbered number (own_findings t code) n
  pub loads : (n : ℕ) → amount_of own.loads n ≡ own_load t (name n) code

-- these are the own values of the nodes of the bill
abbrev pub AreOwnOf : Lists → Graph → (Finding → ℕ) → (ℕ → List ℕ) → (ℕ → OwnValues) → Type 0
AreOwnOf t g number name own = (node : ℕ) → node < length g.labels → IsOwnOf t number name (label_of g.labels node) (own node)

-- the edit leaves the lines of the code and what it has of its own, and the code is kept or not as it was
pub record KeepsOwn (t : Lists) (edit : Edit) (code : List ℕ) : Type 0 where
  pub kept : is_kept (with_edit_entered t edit) code ≡ is_kept t code
  pub lines : lines_of (with_edit_entered t edit).lines code ≡ lines_of t.lines code
  pub masses : own_mass (with_edit_entered t edit) code ≡ own_mass t code
  pub found : own_findings (with_edit_entered t edit) code ≡ own_findings t code
  pub loads : (substance : List ℕ) → own_load (with_edit_entered t edit) substance code ≡ own_load t substance code

-- these nodes of the bill after an edit are affected by it, each stands there once, and they are all at which its change begins and all
-- whose lines or own values don't stay
pub record AreRenewed (t : Lists) (edit : Edit) (g : Graph) (nodes : List ℕ) : Type 0 where
  pub distinct : AreDistinct nodes
  pub inside : (node : ℕ) → has_node nodes node ≡ true → node < length g.labels
  pub affected : (node : ℕ) → has_node nodes node ≡ true → is_affected t edit (label_of g.labels node) ≡ true
  pub seeds : (node : ℕ) → node < length g.labels → list_any (same_code (label_of g.labels node)) (seeds_of_new t edit) ≡ true → has_node nodes node ≡ true
  pub others : (node : ℕ) → node < length g.labels → has_node nodes node ≡ false → KeepsOwn t edit (label_of g.labels node)

-- an edit that passes the refusals 1 to 20; the bills before and after it are those of the tables, and the nodes stay; what is kept is right
-- before it; and new own values are given of the nodes that have to have them
pub record IsEdited (t : Lists) (edit : Edit) (g new : Graph) (kept : KeptValues) (owns : List OwnValues) : Type 0 where
  pub consistent : IsConsistent t
  pub passes : PassesRows t edit
  pub before : IsBridge t g
  pub after : IsBridge (with_edit_entered t edit) new
  pub nodes : length g.labels ≤ length new.labels
  pub labels : (node : ℕ) → node < length g.labels → label_of new.labels node ≡ label_of g.labels node
  pub rolled : AreRolledUp g kept
  pub renewed : AreRenewed t edit new (nodes_of_owns owns)

-- then the nodes that the bill tells to be affected are those of the edit; where the new own values are right, those of all nodes are; and
-- the roll-ups may be prepared
pub record EditsArePrepared : Type 0 where
  pub affected : (t : Lists) (edit : Edit) (g new : Graph) (kept : KeptValues) (owns : List OwnValues) → IsEdited t edit g new kept owns →
      (node : ℕ) → node < length new.labels → is_affected_node new.lines (nodes_of_owns owns) node ≡ is_affected t edit (label_of new.labels node)
  pub owns : (t : Lists) (edit : Edit) (g new : Graph) (kept : KeptValues) (owns : List OwnValues) → IsEdited t edit g new kept owns →
      (number : Finding → ℕ) (name : ℕ → List ℕ) → AreOwnOf t g number name (own_at kept.owns) →
      ((node : ℕ) → has_node (nodes_of_owns owns) node ≡ true → IsOwnOf (with_edit_entered t edit) number name (label_of new.labels node) (own_with owns kept.owns node)) →
      AreOwnOf (with_edit_entered t edit) new number name (own_with owns kept.owns)
  pub prepared : (t : Lists) (edit : Edit) (g new : Graph) (kept : KeptValues) (owns : List OwnValues) → IsEdited t edit g new kept owns →
      (number : Finding → ℕ) (name : ℕ → List ℕ) → AreOwnOf (with_edit_entered t edit) new number name (own_with owns kept.owns) →
      CanPrepare new owns kept
