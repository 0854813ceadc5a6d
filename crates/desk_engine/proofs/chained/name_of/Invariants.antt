use Rattle.std.proofs.Common.{◌≡◌, ◌<◌, ℕ, false}
use Rattle.desk_text.specs.Code.{same_code}
use Rattle.desk_graph.specs.Graph.{label_of}
use Rattle.desk_engine.proofs.chained.name_of.Given as goal

abbrev pub invariant-loop-place : goal.invariant-loop-place
invariant-loop-place l = (k : ℕ) → k < l.place → same_code (label_of l.names k) l.substance ≡ false
