use Rattle.std.proofs.Common.{◌≡◌, map, take}
use Rattle.desk_rollup.specs.Rolled.{weight}
use Rattle.desk_rollup.specs.Values.{own_with}
use Rattle.desk_rollup.specs.Weights.{fitting}
use Rattle.desk_rollup.proofs.sweep.Sweep.weights.Given as goal

abbrev pub invariant-loop-place : goal.invariant-loop-place
invariant-loop-place g l =
    l.weights.items ≡ map (λ node. fitting (weight (g.B.BillView.graph l.self.bill.now).lines (own_with l.self.owns.now l.self.kept.now.owns) node)) (take l.place l.self.places.now.nodes)
