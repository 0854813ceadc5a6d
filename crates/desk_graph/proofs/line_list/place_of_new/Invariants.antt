use Rattle.std.proofs.Common.{◌≡◌, ℕ, ◌++◌, drop, take}
use Rattle.desk_graph.specs.Edits.{inserted_by_label}
use Rattle.desk_graph.proofs.line_list.place_of_new.Given as goal

abbrev pub invariant-loop-place : goal.invariant-loop-place
invariant-loop-place l =
    (count : ℕ) → inserted_by_label l.labels (record { node = l.node; count = count }) l.lines ≡ take l.place l.lines ++ inserted_by_label l.labels (record { node = l.node; count = count }) (drop l.place l.lines)
