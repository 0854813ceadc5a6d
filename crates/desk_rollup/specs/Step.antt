-- Values that are right by those that are kept of the children.
use Rattle.std.specs.Prelude.{◌≡◌, ℕ, ◌+◌, ◌*◌, ◌||◌, List, Option, Some, None, find, option_map, sum_by, if◌then◌else◌}
use Rattle.std.specs.List.{list_any}
use Rattle.desk_graph.specs.declared.line.BillLine.{BillLine}
use Rattle.desk_graph.specs.Graph.{lines_of_node}
use Rattle.desk_rollup.specs.Numbers.{Rises, has, hop_numbers, mark_numbers, load_numbers}
use Rattle.desk_rollup.specs.Values.{KeptValues, OwnValues, RolledValues, amount_of, carried_by_node, hop_of, load_in, own_at, rolled_at}

-- the hop of a mark: none of an own mark, else the first child of the lines that has the mark
abbrev pub step_hop : (ℕ → RolledValues) → OwnValues → List BillLine → ℕ → Option (Option ℕ)
step_hop below own of_node mark =
    if has (mark_numbers own.marks) mark then Some None
    else option_map (λ line. Some line.node) (find (λ line. has (hop_numbers (below line.node).hops) mark) of_node)

-- the load of a substance: there is one where the node or a child of the lines has one
abbrev pub step_load : (ℕ → RolledValues) → OwnValues → List BillLine → ℕ → Option ℕ
step_load below own of_node what =
    if has (load_numbers own.loads) what || list_any (λ line. has (load_numbers (below line.node).loads) what) of_node
    then Some (amount_of own.loads what + sum_by (λ line. line.count * carried_by_node (below line.node).loads what) of_node) else None

-- the values are those that the own values and the values of the children come to
pub record IsStepOver (below : ℕ → RolledValues) (own : OwnValues) (of_node : List BillLine) (values : RolledValues) : Type 0 where
  pub weight : values.weight ≡ own.weight + sum_by (λ line. line.count * (below line.node).weight) of_node
  pub hops_rise : Rises (hop_numbers values.hops)
  pub hops : (mark : ℕ) → hop_of values.hops mark ≡ step_hop below own of_node mark
  pub loads_rise : Rises (load_numbers values.loads)
  pub loads : (what : ℕ) → load_in values.loads what ≡ step_load below own of_node what

-- the values that are kept of a node are right by those that are kept of its children
abbrev pub IsStep : List (List BillLine) → KeptValues → ℕ → Type 0
IsStep lines kept node = IsStepOver (rolled_at kept.rolled) (own_at kept.owns node) (lines_of_node lines node) (rolled_at kept.rolled node)
