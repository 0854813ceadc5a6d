-- When a stored bill of materials is that of the tables.
use Rattle.std.specs.Prelude.{◌≡◌, ℕ, ◌+◌, ◌<◌, List, [], ◌∷◌, length, map, if◌then◌else◌}
use Rattle.std.specs.List.{position_or_len}
use Rattle.desk_text.specs.Code.{same_code}
use Rattle.desk_model.specs.declared.edit.Edit.{Edit}
use Rattle.desk_model.specs.declared.edit.Edit.TheVariants.{Declare, Part, Line, Unline}
use Rattle.desk_model.specs.declared.rows.line.LineRow.{LineRow}
use Rattle.desk_model.specs.Lists.{Lists, is_kept}
use Rattle.desk_findings.specs.Reaches.{lines_of}
use Rattle.desk_graph.specs.declared.line.BillLine.{BillLine}
use Rattle.desk_graph.specs.Bill.{IsBillGraph}
use Rattle.desk_graph.specs.Edits.{is_taken, with_line_in, with_node, without_line_in}
use Rattle.desk_graph.specs.Graph as graph
use Rattle.desk_graph.specs.Graph.{Graph, label_of}

-- the labels are the codes of all materials and parts: such a code is taken, no other is, and there are as many labels as codes
pub record IsNumbered (t : Lists) (labels : List (List ℕ)) : Type 0 where
  pub taken : (code : List ℕ) → is_taken labels code ≡ is_kept t code
  pub count : length labels ≡ length t.materials + length t.parts

-- a line of a node as the tables keep it
abbrev pub line_row_at : List (List ℕ) → ℕ → BillLine → LineRow
line_row_at labels parent line = record { parent = label_of labels parent; child = label_of labels line.node; count = line.count }

-- the lines of a node as the tables keep them
abbrev pub rows_at : Graph → ℕ → List LineRow
rows_at g node = map (line_row_at g.labels node) (graph.lines_of_node g.lines node)

-- the lines of each node are the tables' lines of its code, child by child
abbrev pub HasSameLines : Lists → Graph → Type 0
HasSameLines t g = (node : ℕ) → node < length g.labels → lines_of t.lines (label_of g.labels node) ≡ rows_at g node

-- the bill is that of the tables
pub record IsBillOf (t : Lists) (g : Graph) : Type 0 where
  pub numbered : IsNumbered t g.labels
  pub lines : HasSameLines t g

-- a bill, which is that of the tables
pub record IsBridge (t : Lists) (g : Graph) : Type 0 where
  pub bill : IsBillGraph g
  pub of : IsBillOf t g

-- the first place of a code in a list, or the length of the list
abbrev pub place_of : List (List ℕ) → List ℕ → ℕ
place_of codes code = position_or_len (λ listed. same_code listed code) codes

-- the node of a code: the first that has it
abbrev pub node_of : List (List ℕ) → List ℕ → ℕ
node_of labels code = place_of labels code

-- the bill with a node of the code, which has no lines where it is new
abbrev pub with_code : List ℕ → Graph → Graph
with_code code g = if is_taken g.labels code then g else with_node code g

-- the bill with a node of each code
abbrev pub with_codes : List (List ℕ) → Graph → Graph
with_codes [] g = g
with_codes (code ∷ more) g = with_codes more (with_code code g)

-- the bill after an edit of the tables
unfoldable pub bill_after : Graph → Edit → Graph
bill_after g (Declare declaration) = with_codes (map (λ material. material.code) declaration.materials) g
bill_after g (Part ticket code sort name) = with_code code g
bill_after g (Line ticket parent child count) = with_line_in (node_of g.labels parent) (node_of g.labels child) count g
bill_after g (Unline ticket parent child) = without_line_in (node_of g.labels parent) (node_of g.labels child) g
bill_after g _ = g
