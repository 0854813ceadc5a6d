use Rattle.std.proofs.Common.{◌≡◌, ◌<◌, ◌≤◌, ℕ, false, List, ◌++◌, length, slice_index, IfSome}
use Rattle.desk_graph.specs.Reaches.{has_node}
use Rattle.desk_rollup.specs.Values.{AreHopsInOrder, DoFit, RolledValues, hop_total, rolled_at}
use Rattle.desk_rollup.proofs.rollups.put_rolled.Given as goal

abbrev pub invariant-loop-values : goal.invariant-loop-values
invariant-loop-values l =
    (length l.kept ≡ length l.initial.kept)
    × ((tail : List RolledValues) × (l.initial.new.items ≡ l.new.items ++ tail))
    × (length l.new.items ≤ length l.nodes)
    × ((node : ℕ) → has_node l.nodes node ≡ false → rolled_at l.kept node ≡ rolled_at l.initial.kept node)
    × ((place : ℕ) → length l.new.items ≤ place → place < length l.nodes → rolled_at l.kept (slice_index l.nodes place) ≡ rolled_at l.initial.new.items place)
    × (DoFit l.initial.kept → DoFit l.initial.new.items → DoFit l.kept)
    × IfSome l.hops (λ hops. hops ≡ hop_total l.kept)
    × (AreHopsInOrder l.initial.kept → AreHopsInOrder l.initial.new.items → AreHopsInOrder l.kept)

abbrev pub decreases-loop-values : goal.decreases-loop-values
decreases-loop-values l = length l.new.items
