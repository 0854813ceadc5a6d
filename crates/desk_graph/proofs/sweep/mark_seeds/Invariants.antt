use Rattle.std.proofs.Common.{◌≡◌, ℕ, ◌≤◌, ◌||◌, length, take}
use Rattle.desk_graph.specs.Order.{MarksAtMost, mark_of}
use Rattle.desk_graph.specs.Reaches.{has_node}
use Rattle.desk_graph.proofs.sweep.mark_seeds.Given as goal

abbrev pub invariant-loop-seed : goal.invariant-loop-seed
invariant-loop-seed l =
    (length l.marks ≡ length l.fn.marks)
    × ((node : ℕ) → mark_of l.marks node ≡ (mark_of l.fn.marks node || has_node (take l.seed-index l.seeds) node))
    × MarksAtMost l.more l.fn.marks l.marks
    × (l.more ≤ l.seed-index)
