-- Weights of which too large ones are left out.
use Rattle.std.specs.Prelude.{ℕ, ◌+◌, ◌*◌, ◌^◌, ◌<◌, ◌==◌, List, Option, Some, None, fold, length, nat_lt, slice_index_or, if◌then◌else◌}
use Rattle.desk_graph.specs.declared.line.BillLine.{BillLine}
use Rattle.desk_rollup.specs.Values.{RolledValues, rolled_at}

-- a weight below 2^128
abbrev pub fitting : ℕ → Option ℕ
fitting weight = if nat_lt weight (2 ^ 128) then Some weight else None

-- a weight together with so many of a child
abbrev pub with_child : Option ℕ → ℕ → Option ℕ → Option ℕ
with_child (Some sum) count (Some child) = fitting (sum + count * child)
with_child (Some sum) count None = if count == 0 then Some sum else None
with_child None count child = None

-- the weight of a node: its own and that of the children of its lines
abbrev pub weighed : (ℕ → Option ℕ) → ℕ → List BillLine → Option ℕ
weighed below own of_node = fold (λ sum line. with_child sum line.count (below line.node)) (Some own) of_node

-- the weight of a node that is known: the new one at its place, or the one that is kept of it
abbrev pub known_weight : Option ℕ → List RolledValues → List (Option ℕ) → ℕ → Option ℕ
known_weight None kept new node = Some (rolled_at kept node).weight
known_weight (Some place) kept new node = slice_index_or new place None

-- there is such a weight
abbrev pub IsKnownWeight : Option ℕ → List RolledValues → List (Option ℕ) → ℕ → Type 0
IsKnownWeight None kept new node = node < length kept
IsKnownWeight (Some place) kept new node = place < length new
