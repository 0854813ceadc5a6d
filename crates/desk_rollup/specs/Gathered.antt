-- The lists of a node, gathered from its own entries and from those of its children.
use Rattle.std.specs.Prelude.{◌≡◌, ℕ, ◌+◌, ◌*◌, ◌-◌, ◌^◌, List, [], ◌∷◌, Some, None, fold, map, min}
use Rattle.desk_graph.specs.declared.line.BillLine.{BillLine}
use Rattle.desk_rollup.specs.declared.mark.Mark.{Mark}
use Rattle.desk_rollup.specs.declared.hop.Hop.{Hop}
use Rattle.desk_rollup.specs.declared.load.Load.{Load}
use Rattle.desk_rollup.specs.Merge.{merged}
use Rattle.desk_rollup.specs.Numbers.{mark_number}
use Rattle.desk_rollup.specs.Values.{RolledValues}

-- the list with each of the entries
abbrev pub with_each : {X : Type 0} → (X → ℕ) → (X → X → X) → List X → List X → List X
with_each number join entries held = fold (λ list entry. merged number join (entry ∷ []) list) held entries

-- the list with what the children of the lines have, lifted along the lines
abbrev pub with_each_line : {X : Type 0} → (X → ℕ) → (X → X → X) → (BillLine → X → X) → (RolledValues → List X) → (ℕ → RolledValues) →
    List BillLine → List X → List X
with_each_line number join lift listed below of_node held =
    fold (λ list line. merged number join (map (lift line) (listed (below line.node))) list) held of_node

-- an own mark
abbrev pub own_hop : Mark → Hop
own_hop mark = record { mark = mark; next = None }

-- the hops of a node
abbrev pub all_hops : (ℕ → RolledValues) → List Mark → List BillLine → List Hop
all_hops below marks of_node =
    with_each_line (λ hop. mark_number hop.mark) (λ held more. held) (λ line hop. record { mark = hop.mark; next = Some line.node })
    (λ values. values.hops) below of_node
    (with_each (λ hop. mark_number hop.mark) (λ held more. held) (map own_hop marks) [])

-- two loads of one substance
abbrev pub joined_loads : Load → Load → Load
joined_loads held more = record { what = held.what; amount = min (held.amount + more.amount) (2 ^ 128 - 1) }

-- the load of a child at the parent of the line
abbrev pub lifted_load : BillLine → Load → Load
lifted_load line load = record { what = load.what; amount = min (load.amount * line.count) (2 ^ 128 - 1) }

-- the loads of a node
abbrev pub all_loads : (ℕ → RolledValues) → List Load → List BillLine → List Load
all_loads below loads of_node =
    with_each_line (λ load. load.what) joined_loads lifted_load (λ values. values.loads) below of_node (with_each (λ load. load.what) joined_loads loads [])

-- where no child of the lines has a hop or a load, a node without any of its own has none
abbrev pub HaveNone : (ℕ → RolledValues) → List BillLine → Type 0
HaveNone below of_node = (all_hops below [] of_node ≡ []) × (all_loads below [] of_node ≡ [])
