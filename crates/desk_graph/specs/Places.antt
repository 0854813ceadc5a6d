-- What an order of nodes keeps: the place of each node, and room for a change.
use Rattle.std.specs.Prelude.{◌≡◌, ℕ, ◌<◌, ◌≤◌, List, length, slice_index, vec_capacity}
use Rattle.desk_graph.specs.declared.node_order.NodeOrder.TheInside.{Inside}

-- the nodes in their order
abbrev pub nodes_in_order : Inside → List ℕ
nodes_in_order order = order.nodes.items

-- the places are those of the nodes, and there is room for all nodes that a bill may have
pub record IsPlaced (order : Inside) : Type 0 where
  pub nodes_fit : length order.nodes.items ≤ 24576
  pub places_size : length order.places.items ≡ length order.nodes.items
  pub marks_size : length order.marks.items ≡ length order.nodes.items
  pub inside : (place : ℕ) → place < length order.nodes.items → slice_index order.nodes.items place < length order.nodes.items
  pub placed : (place : ℕ) → place < length order.nodes.items → slice_index order.places.items (slice_index order.nodes.items place) ≡ place
  pub nodes_room : 24576 ≤ vec_capacity order.nodes
  pub places_room : 24576 ≤ vec_capacity order.places
  pub marks_room : 24576 ≤ vec_capacity order.marks
  pub room_room : 24576 ≤ vec_capacity order.room
