-- Nodes in an order, and the place of each.
use Rattle.std.specs.Prelude.{◌≡◌, ℕ, zero, suc, ◌<◌, ◌==◌, false, List, Option, Some, None, length, nat_lt, position, slice_index, if◌then◌else◌}
use Rattle.desk_graph.specs.Reaches.{has_node}
use Rattle.desk_rollup.specs.Values.{RolledValues, rolled_at}

-- nodes, and a number for each node of the bill: none, or one more than its place; there are no numbers where the nodes are few
pub record Placed : Type 0 where
  pub nodes : List ℕ
  pub slots : List ℕ

-- the place that a number tells
abbrev pub place_told : ℕ → Option ℕ
place_told zero = None
place_told (suc place) = Some place

-- the place that the number of a node tells
abbrev pub place_in : List ℕ → ℕ → Option ℕ
place_in slots node = place_told (slice_index slots node)

-- the place of a node, if it has one: by its number, or where it stands first
abbrev pub place_at : Placed → ℕ → Option ℕ
place_at placed node =
    if nat_lt node (length placed.slots) then place_in placed.slots node else position (λ other. other == node) placed.nodes

-- a node that is told no place isn't there, and one that is stands at that place
abbrev pub IsPlaceOf : List ℕ → ℕ → Option ℕ → Type 0
IsPlaceOf nodes node None = has_node nodes node ≡ false
IsPlaceOf nodes node (Some place) = (place < length nodes) × (slice_index nodes place ≡ node)

-- the places that are told are those of the nodes
abbrev pub ArePlaced : Placed → Type 0
ArePlaced placed = (node : ℕ) → IsPlaceOf placed.nodes node (place_at placed node)

-- the values of a node: the new ones at its place, or those that are kept of it
abbrev pub known : Option ℕ → List RolledValues → List RolledValues → ℕ → RolledValues
known None kept new node = rolled_at kept node
known (Some place) kept new node = rolled_at new place

-- there are such values
abbrev pub IsKnown : Option ℕ → List RolledValues → List RolledValues → ℕ → Type 0
IsKnown None kept new node = node < length kept
IsKnown (Some place) kept new node = place < length new
