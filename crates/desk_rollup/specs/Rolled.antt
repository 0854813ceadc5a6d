-- Weights, marks and loads that go up the bill of materials.
use Rattle.std.specs.Prelude.{◌≡◌, ℕ, zero, suc, ◌+◌, ◌*◌, ◌==◌, List, ◌++◌, Option, Some, None, find, flat_map, length, option_map, sum_by, if◌then◌else◌}
use Rattle.std.specs.List.{range_with_len}
use Rattle.desk_graph.specs.declared.line.BillLine.{BillLine}
use Rattle.desk_graph.specs.Graph.{lines_of_node}
use Rattle.desk_graph.specs.Reaches.{longest_node_chain}
use Rattle.desk_rollup.specs.Numbers.{Rises, has, hop_numbers, mark_numbers, once, load_numbers}
use Rattle.desk_rollup.specs.Values.{OwnValues, RolledValues, amount_of, hop_of, load_in}

-- what a node has of its own and, for each of its lines, count times what the child has, down to so many lines deep
unfoldable pub node_rolled_within : List (List BillLine) → (ℕ → ℕ) → ℕ → ℕ → ℕ
node_rolled_within lines own zero node = own node
node_rolled_within lines own (suc k) node = own node + sum_by (λ line. line.count * node_rolled_within lines own k line.node) (lines_of_node lines node)

-- what a node has of its own and by its lines, down to the end of the bill
abbrev pub node_rolled : List (List BillLine) → (ℕ → ℕ) → ℕ → ℕ
node_rolled lines own node = node_rolled_within lines own (longest_node_chain lines) node

-- the numbers that a node has of its own and those of its children, each once, down to so many lines deep
unfoldable pub gathered_within : List (List BillLine) → (ℕ → List ℕ) → ℕ → ℕ → List ℕ
gathered_within lines own zero node = once (own node)
gathered_within lines own (suc k) node = once (own node ++ flat_map (λ line. gathered_within lines own k line.node) (lines_of_node lines node))

-- the numbers that a node has of its own and by its lines, each once, down to the end of the bill
abbrev pub numbers_below : List (List BillLine) → (ℕ → List ℕ) → ℕ → List ℕ
numbers_below lines own node = gathered_within lines own (longest_node_chain lines) node

-- the weight of a node
abbrev pub weight : List (List BillLine) → (ℕ → OwnValues) → ℕ → ℕ
weight lines own node = node_rolled lines (λ n. (own n).weight) node

-- the marks of a node, by number
abbrev pub mark_numbers_below : List (List BillLine) → (ℕ → OwnValues) → ℕ → List ℕ
mark_numbers_below lines own node = numbers_below lines (λ n. mark_numbers (own n).marks) node

-- the hop of a mark at a node: none of an own mark, else the child with the least label that has the mark. The lines of a node stand in
-- the order of their labels
abbrev pub hop : List (List BillLine) → (ℕ → OwnValues) → ℕ → ℕ → Option (Option ℕ)
hop lines own node mark =
    if has (mark_numbers (own node).marks) mark then Some None
    else option_map (λ line. Some line.node) (find (λ line. has (mark_numbers_below lines own line.node) mark) (lines_of_node lines node))

-- what a node carries of a substance
abbrev pub amount : List (List BillLine) → (ℕ → OwnValues) → ℕ → ℕ → ℕ
amount lines own node what = node_rolled lines (λ n. amount_of (own n).loads what) node

-- the load of a substance at a node: there is one where the node or one that it is made of has one of its own
abbrev pub load : List (List BillLine) → (ℕ → OwnValues) → ℕ → ℕ → Option ℕ
load lines own node what =
    if has (numbers_below lines (λ n. load_numbers (own n).loads) node) what then Some (amount lines own node what) else None

-- these are the values of the node
pub record IsRolled (lines : List (List BillLine)) (own : ℕ → OwnValues) (node : ℕ) (values : RolledValues) : Type 0 where
  pub weight : values.weight ≡ weight lines own node
  pub hops_rise : Rises (hop_numbers values.hops)
  pub hops : (mark : ℕ) → hop_of values.hops mark ≡ hop lines own node mark
  pub loads_rise : Rises (load_numbers values.loads)
  pub loads : (what : ℕ) → load_in values.loads what ≡ load lines own node what

-- how many marks the nodes have that have lines
abbrev pub mark_count : List (List BillLine) → (ℕ → OwnValues) → ℕ
mark_count lines own =
    sum_by (λ node. if length (lines_of_node lines node) == 0 then 0 else length (mark_numbers_below lines own node)) (range_with_len 0 (length lines))
