use Rattle.std.proofs.Common.{◌≡◌, ℕ}
use Rattle.std.specs.Prelude.{nat_lt, if◌then◌else◌}
use Rattle.desk_graph.specs.Graph.{label_of}
use Rattle.desk_rollup.specs.Values.{amount_of}
use Rattle.desk_bridge.specs.Own.{amount_held}
use Rattle.desk_bridge.proofs.own.loads_of.Given as goal

abbrev pub invariant-loop-place : goal.invariant-loop-place
invariant-loop-place l = (n : ℕ) → amount_of l.loads.items n ≡ (if nat_lt n l.place then amount_held l.above (label_of l.names n) else 0)
