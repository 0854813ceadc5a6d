use Rattle.std.proofs.Common.{◌≡◌, ◌<◌, ℕ, true, length}
use Rattle.std.specs.Vec.Iter.{into_iter_items}
use Rattle.desk_graph.specs.Reaches.{has_node}
use Rattle.desk_rollup.specs.Plan.{AreDistinct, nodes_of_owns}
use Rattle.desk_rollup.specs.Values.{own_with}
use Rattle.desk_rollup.proofs.rollups.put_owns.Given as goal

abbrev pub invariant-loop-own : goal.invariant-loop-own
invariant-loop-own l =
    goal.iterator-loop-own.can_next l.own-iterator ×
    goal.iterator-loop-own.is_finite l.own-iterator ×
    AreDistinct (nodes_of_owns (into_iter_items l.own-iterator)) ×
    ((node : ℕ) → has_node (nodes_of_owns (into_iter_items l.own-iterator)) node ≡ true → node < length l.kept) ×
    ((node : ℕ) → own_with (into_iter_items l.own-iterator) l.kept node ≡ own_with (into_iter_items l.initial.own-iterator) l.initial.kept node)
