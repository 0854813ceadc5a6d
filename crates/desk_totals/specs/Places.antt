-- How a bill is kept: each line by the places of its two ends among the nodes.
use Rattle.std.specs.Prelude.{◌≡◌, ℕ, ◌<◌, ◌≤◌, true, List, [], length, slice_index_or}
use Rattle.std.specs.List.{All}
use Rattle.desk_model.specs.declared.rows.line.LineRow.{LineRow}
use Rattle.desk_totals.specs.declared.link.Link.{Link}
use Rattle.desk_totals.specs.Linked.{are_codes_distinct}

-- the code of the node at a place
abbrev pub node_at : List (List ℕ) → ℕ → List ℕ
node_at nodes place = slice_index_or nodes place []

-- the line that a link stands for
abbrev pub line_at : List (List ℕ) → Link → LineRow
line_at nodes link = record { parent = node_at nodes link.parent; child = node_at nodes link.child; count = link.count }

-- the link with the count 1 in the place of its own
abbrev pub single_link : Link → Link
single_link link = record { parent = link.parent; child = link.child; count = 1 }

-- each link goes from one of so many places to one of them
abbrev pub ArePlaces : ℕ → List Link → Type 0
ArePlaces count links = All (λ link. (link.parent < count) × (link.child < count)) links

-- the nodes are distinct, the materials are no more than they, and each link goes between two of their places
pub record IsKeptRight (nodes : List (List ℕ)) (material_count : ℕ) (links : List Link) : Type 0 where
  pub distinct : are_codes_distinct nodes ≡ true
  pub materials : material_count ≤ length nodes
  pub places : ArePlaces (length nodes) links
