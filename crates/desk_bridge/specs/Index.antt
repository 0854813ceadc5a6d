-- An index of the nodes by code.
use Rattle.std.specs.Prelude.{◌≡◌, ℕ, Bool, List, Option, Some, None, if◌then◌else◌}
use Rattle.desk_text.specs.Code.{code_cmp}
use Rattle.desk_rows.specs.Rows.{row_of, with_row}
use Rattle.desk_graph.specs.Edits.{is_taken}
use Rattle.desk_bridge.specs.declared.node_index.NodeRow.{NodeRow}
use Rattle.desk_bridge.specs.Bridge.{node_of}

-- the row of a code at a node, if it is there
abbrev pub node_row_if : Bool → List ℕ → ℕ → Option NodeRow
node_row_if there code node = if there then Some (record { code = code; node = node }) else None

-- a look-up gives the node of each code that is taken, and nothing for any other
abbrev pub IsIndex : List (List ℕ) → List NodeRow → Type 0
IsIndex labels rows = (code : List ℕ) → row_of (λ row. row.code) code_cmp code rows ≡ node_row_if (is_taken labels code) code (node_of labels code)

-- the node of a code, if one has it
abbrev pub node_if : List (List ℕ) → List ℕ → Option ℕ
node_if labels code = if is_taken labels code then Some (node_of labels code) else None

-- the index with one node more
abbrev pub index_with : List ℕ → ℕ → List NodeRow → List NodeRow
index_with code node rows = with_row (λ row. row.code) code_cmp (record { code = code; node = node }) rows
