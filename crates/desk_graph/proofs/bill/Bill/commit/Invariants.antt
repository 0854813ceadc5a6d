use Rattle.std.proofs.Common.{◌≡◌, ◌+◌, ◌≤◌, length}
use Rattle.std.specs.Vec.Iter.{into_iter_items, into_iter_len}
use Rattle.desk_graph.specs.Planned.{AreFree, with_nodes}
use Rattle.desk_graph.proofs.bill.Bill.commit.Given as goal

abbrev pub invariant-loop-label : goal.invariant-loop-label
invariant-loop-label l =
    goal.iterator-loop-label.can_next l.label-iterator ×
    goal.iterator-loop-label.is_finite l.label-iterator ×
    (with_nodes (into_iter_items l.label-iterator) l.self ≡ with_nodes (into_iter_items l.initial.label-iterator) l.initial.self) ×
    AreFree (into_iter_items l.label-iterator) l.self.labels ×
    (length l.self.labels + into_iter_len l.label-iterator ≤ 24576)
