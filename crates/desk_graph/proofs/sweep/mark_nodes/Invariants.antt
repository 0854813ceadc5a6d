use Rattle.std.proofs.Common.{◌≡◌, ℕ, ◌≤◌, ◌||◌, length, take}
use Rattle.desk_graph.specs.Graph.{has_line}
use Rattle.desk_graph.specs.Order.{MarksAtMost, mark_of}
use Rattle.desk_graph.proofs.sweep.mark_nodes.Given as goal

abbrev pub invariant-loop-line : goal.invariant-loop-line
invariant-loop-line l =
    (length l.marks ≡ length l.fn.marks)
    × ((node : ℕ) → mark_of l.marks node ≡ (mark_of l.fn.marks node || has_line (take l.line-index l.lines) node))
    × MarksAtMost l.more l.fn.marks l.marks
    × (l.more ≤ l.line-index)
