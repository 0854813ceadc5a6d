use Rattle.desk_rollup.specs.Rolled.{weight}
use Rattle.desk_rollup.specs.Values.{own_with}
use Rattle.desk_rollup.proofs.Heavy.{IsFirstAmong}
use Rattle.desk_rollup.proofs.sweep.Sweep.first_too_large.Given as goal

abbrev pub invariant-loop-place : goal.invariant-loop-place
invariant-loop-place g l =
    IsFirstAmong (g.B.BillView.graph l.self.bill.now) (weight (g.B.BillView.graph l.self.bill.now).lines (own_with l.self.owns.now l.self.kept.now.owns)) l.self.places.now.nodes l.place l.first
