-- The bill of materials as callers see it: the labels of its nodes, and the lines of each node.
use Rattle.std.specs.Prelude.{◌≡◌, ℕ, Bool, ◌==◌, List, [], ◌∷◌, Option, Some, None, if◌then◌else◌, length, slice_index_or, sum_by}
use Rattle.std.specs.Cmp.Lexicographic.{slice_cmp}
use Rattle.std.specs.List.{AllByRecursion, list_any}
use Rattle.std.specs.Ordering.{nat_cmp}
use Rattle.std.specs.declared.cmp.Ordering.{Ordering}
use Rattle.std.specs.declared.cmp.Ordering.TheVariants.{Less}
use Rattle.desk_graph.specs.declared.line.BillLine.{BillLine}

-- the nodes of a bill by number: the label of each, and its lines to its children
pub record Graph : Type 0 where
  pub labels : List (List ℕ)
  pub lines : List (List BillLine)

-- labels are ordered by their bytes
abbrev pub label_cmp : List ℕ → List ℕ → Ordering
label_cmp = slice_cmp nat_cmp

-- the label of a node
abbrev pub label_of : List (List ℕ) → ℕ → List ℕ
label_of labels node = slice_index_or labels node []

-- the lines of a node, none where there is no such node
abbrev pub lines_of_node : List (List BillLine) → ℕ → List BillLine
lines_of_node lines node = slice_index_or lines node []

-- one of the lines has this node at its other end
abbrev pub has_line : List BillLine → ℕ → Bool
has_line lines node = list_any (λ line. line.node == node) lines

-- the count of the line that has this node at its other end, if there is one
abbrev pub count_at : List BillLine → ℕ → Option ℕ
count_at [] node = None
count_at (line ∷ lines) node = if line.node == node then Some line.count else count_at lines node

-- the parent has a line to the child
abbrev pub is_line_between : List (List BillLine) → ℕ → ℕ → Bool
is_line_between lines parent child = has_line (lines_of_node lines parent) child

-- how many lines the bill has
abbrev pub line_count : List (List BillLine) → ℕ
line_count lines = sum_by (λ of_node. length of_node) lines

-- the nodes of these lines stand in the order of their labels, each once
abbrev pub IsByLabel : List (List ℕ) → List BillLine → Type 0
IsByLabel labels [] = Unit {0}
IsByLabel labels (line ∷ lines) =
    AllByRecursion (λ later. label_cmp (label_of labels line.node) (label_of labels later.node) ≡ Less) lines × IsByLabel labels lines

-- the users of a node: a line from each parent of it with that line's count, and from no other
abbrev pub AreUsers : List (List BillLine) → ℕ → List BillLine → Type 0
AreUsers lines child users = (parent : ℕ) → count_at users parent ≡ count_at (lines_of_node lines parent) child
