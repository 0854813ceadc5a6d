-- What the edits of a bill do, and when they are refused.
use Rattle.std.specs.Prelude.{ℕ, Bool, not, ◌==◌, List, [], ◌∷◌, ◌++◌, Result, Ok, Err, length, filter, map, if◌then◌else◌, nat_lt, nat_le, slice_set}
use Rattle.std.specs.List.{list_any}
use Rattle.std.specs.Ordering.{is_eq, is_lt}
use Rattle.desk_graph.specs.declared.line.BillLine.{BillLine}
use Rattle.desk_graph.specs.declared.fault.NodeFault.{NodeFault}
use Rattle.desk_graph.specs.declared.fault.NodeFault.TheVariants as node
use Rattle.desk_graph.specs.declared.fault.LineFault.{LineFault}
use Rattle.desk_graph.specs.declared.fault.LineFault.TheVariants.{Closes, Full}
use Rattle.desk_graph.specs.Graph.{Graph, has_line, label_cmp, label_of, line_count, lines_of_node}
use Rattle.desk_graph.specs.Reaches.{chain_of_nodes, is_node_or_reaches}

-- the lines with a new one before the first whose node has a greater label
abbrev pub inserted_by_label : List (List ℕ) → BillLine → List BillLine → List BillLine
inserted_by_label labels new [] = new ∷ []
inserted_by_label labels new (line ∷ lines) =
    if is_lt (label_cmp (label_of labels new.node) (label_of labels line.node)) then new ∷ line ∷ lines else line ∷ inserted_by_label labels new lines

-- the lines with the new one: in the place of the line to the same node, or else by the label of its node
abbrev pub with_line_of_node : List (List ℕ) → BillLine → List BillLine → List BillLine
with_line_of_node labels new lines =
    if has_line lines new.node then map (λ line. if line.node == new.node then new else line) lines else inserted_by_label labels new lines

-- the lines without the one to this node
abbrev pub without_line_of_node : ℕ → List BillLine → List BillLine
without_line_of_node node lines = filter (λ line. not (line.node == node)) lines

-- some node has this label
abbrev pub is_taken : List (List ℕ) → List ℕ → Bool
is_taken labels label = list_any (λ kept. is_eq (label_cmp kept label)) labels

-- the bill with a new node, which has no lines
abbrev pub with_node : List ℕ → Graph → Graph
with_node label g = record { labels = g.labels ++ label ∷ []; lines = g.lines ++ [] ∷ [] }

-- the number of a new node, or why there can be none
abbrev pub node_answer : List ℕ → Graph → Result ℕ NodeFault
node_answer label g =
    if is_taken g.labels label then Err node.Taken else (if nat_le 24576 (length g.labels) then Err node.Full else Ok (length g.labels))

-- the bill with the line, its count replaced where the line was there
abbrev pub with_line_in : ℕ → ℕ → ℕ → Graph → Graph
with_line_in parent child count g =
    record g { lines = slice_set g.lines parent (with_line_of_node g.labels (record { node = child; count = count }) (lines_of_node g.lines parent)) }

-- the bill without the line
abbrev pub without_line_in : ℕ → ℕ → Graph → Graph
without_line_in parent child g = record g { lines = slice_set g.lines parent (without_line_of_node child (lines_of_node g.lines parent)) }

-- nothing, or why the line can't be set: it would close a cycle, or the bill would have more than 131,072 lines
abbrev pub line_answer : ℕ → ℕ → ℕ → Graph → Result (Unit {0}) LineFault
line_answer parent child count g =
    if is_node_or_reaches g.lines child parent then Err (Closes (chain_of_nodes g.lines child parent))
    else (if nat_lt 131072 (line_count (with_line_in parent child count g).lines) then Err Full else Ok tt)
