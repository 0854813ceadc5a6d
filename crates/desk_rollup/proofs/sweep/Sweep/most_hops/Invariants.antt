use Rattle.std.proofs.Common.{◌≡◌, ◌+◌, take}
use Rattle.desk_rollup.specs.Values.{hop_total}
use Rattle.desk_rollup.proofs.sweep.Sweep.most_hops.Given as goal

abbrev pub invariant-loop-values : goal.invariant-loop-values
invariant-loop-values g l = l.sum ≡ hop_total l.self.kept.now.rolled + hop_total (take l.values-index l.rolled)
