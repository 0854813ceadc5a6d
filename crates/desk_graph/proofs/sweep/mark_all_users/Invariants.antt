use Rattle.std.proofs.Common.{◌≡◌, ℕ, ◌+◌, ◌<◌, ◌≤◌, Bool, true, length, count_by, drop, slice_index}
use Rattle.desk_graph.specs.Graph.{has_line, lines_of_node}
use Rattle.desk_graph.specs.Order.{AreUnmarked, HoldsBelow, has_mark, mark_of}
use Rattle.desk_graph.proofs.sweep.mark_all_users.Given as goal

abbrev pub invariant-loop-place : goal.invariant-loop-place
invariant-loop-place l =
    (length l.marks ≡ length l.fn.marks)
    × ((node : ℕ) → mark_of l.fn.marks node ≡ true → mark_of l.marks node ≡ true)
    × ((place user : ℕ) → place < l.place → mark_of l.marks (slice_index l.order place) ≡ true → has_line (lines_of_node l.users (slice_index l.order place)) user ≡ true → mark_of l.marks user ≡ true)
    × ((holds : ℕ → Bool) → HoldsBelow holds l.fn.marks l.users → (node : ℕ) → mark_of l.marks node ≡ true → holds node ≡ true)
    × AreUnmarked l.from l.order l.marks
    × (count_by (has_mark true l.marks) (drop l.place l.order) + l.met ≤ l.count)
    × (l.met ≤ l.place)
    × (count_by (has_mark true l.marks) l.order ≤ l.count)
