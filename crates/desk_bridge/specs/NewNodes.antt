-- New nodes, and edits that change no bill.
use Rattle.std.specs.Prelude.{◌≡◌, ℕ, Bool, true, false, not, ◌&&◌, List, [], ◌∷◌, ◌++◌, count_by, filter, map, if◌then◌else◌}
use Rattle.desk_text.specs.Code.{same_code}
use Rattle.desk_graph.specs.Bill.{IsBillGraph}
use Rattle.desk_graph.specs.Graph.{Graph, lines_of_node as node_lines}
use Rattle.desk_model.specs.declared.edit.Edit.{Edit}
use Rattle.desk_model.specs.declared.edit.Edit.TheVariants.{Declare, Part, Line, Unline}
use Rattle.desk_model.specs.declared.part_sort.PartSort.{PartSort}
use Rattle.desk_model.specs.Declaration.{Declared}
use Rattle.desk_model.specs.Effect.{with_edit_entered}
use Rattle.desk_model.specs.Lists.{Lists, is_kept}
use Rattle.desk_history.specs.History.{PassesRows}
use Rattle.desk_history.specs.Sound.{IsConsistent}
use Rattle.desk_bridge.specs.Bridge.{IsBridge}

-- nodes are added to a bill, without lines
pub record AddsNodes (g new : Graph) (more : List (List ℕ)) : Type 0 where
  pub bill : IsBillGraph new
  pub labels : new.labels ≡ g.labels ++ more
  pub lines : (node : ℕ) → node_lines new.lines node ≡ node_lines g.lines node

-- the codes of materials and parts that are new in the second tables, each once
abbrev pub AreNewCodes : Lists → Lists → List (List ℕ) → Type 0
AreNewCodes t u more = (code : List ℕ) → count_by (λ listed. same_code listed code) more ≡ (if is_kept u code && not (is_kept t code) then 1 else 0)

-- the edit can change the bill
abbrev pub changes_bill : Edit → Bool
changes_bill (Declare declaration) = true
changes_bill (Part ticket code sort name) = true
changes_bill (Line ticket parent child count) = true
changes_bill (Unline ticket parent child) = true
changes_bill _ = false

-- the codes that a declaration makes new
abbrev pub declared_codes : Lists → Declared → List (List ℕ)
declared_codes t declaration = filter (λ code. not (is_kept t code)) (map (λ material. material.code) declaration.materials)

-- the codes that a part's edit makes new
abbrev pub part_codes : Lists → List ℕ → List (List ℕ)
part_codes t code = if is_kept t code then [] else code ∷ []

-- the bill with a node for each new code is that of the tables after the edit, and where an edit changes no bill it stays the one it was
pub record NodesAreAdded : Type 0 where
  pub added : (t u : Lists) → IsConsistent t → IsConsistent u → u.lines ≡ t.lines → ((code : List ℕ) → is_kept t code ≡ true → is_kept u code ≡ true) →
      (g new : Graph) → IsBridge t g → (more : List (List ℕ)) → AreNewCodes t u more → AddsNodes g new more → IsBridge u new
  pub part : (t : Lists) → IsConsistent t → (ticket code : List ℕ) (sort : PartSort) (name : List ℕ) → PassesRows t (Part ticket code sort name) →
      (g new : Graph) → IsBridge t g → AddsNodes g new (part_codes t code) → IsBridge (with_edit_entered t (Part ticket code sort name)) new
  pub declare : (t : Lists) → IsConsistent t → (declaration : Declared) → PassesRows t (Declare declaration) →
      (g new : Graph) → IsBridge t g → AddsNodes g new (declared_codes t declaration) → IsBridge (with_edit_entered t (Declare declaration)) new
  pub plain : (t : Lists) → IsConsistent t → (edit : Edit) → PassesRows t edit → changes_bill edit ≡ false → (g : Graph) → IsBridge t g → IsBridge (with_edit_entered t edit) g
