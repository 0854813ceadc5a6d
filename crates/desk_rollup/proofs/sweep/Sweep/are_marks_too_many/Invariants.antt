use Rattle.std.proofs.Common.{◌≡◌, ◌≤◌, ℕ, ◌==◌, cond, length, sum_by, take}
use Rattle.std.specs.List.{range_with_len}
use Rattle.desk_graph.specs.Graph.{lines_of_node}
use Rattle.desk_rollup.specs.Rolled.{mark_numbers_below}
use Rattle.desk_rollup.specs.Values.{own_with}
use Rattle.desk_rollup.proofs.sweep.Sweep.are_marks_too_many.Given as goal

abbrev pub invariant-loop-node : goal.invariant-loop-node
invariant-loop-node g l =
    let lines = (g.B.BillView.graph l.self.bill.now).lines in
    let counted = λ (node : ℕ). cond (length (lines_of_node lines node) == 0) 0 (length (mark_numbers_below lines (own_with l.self.owns.now l.self.kept.now.owns) node)) in
    (l.sum ≡ sum_by counted (take l.node (range_with_len 0 (length lines)))) × (l.sum ≤ 4194304)
