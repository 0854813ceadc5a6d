use Rattle.std.proofs.Common.{◌≡◌, take}
use Rattle.desk_rollup.specs.Places.{place_at}
use Rattle.desk_rollup.specs.Weights.{known_weight, weighed}
use Rattle.desk_rollup.proofs.weights.weigh.Given as goal

abbrev pub invariant-loop-line : goal.invariant-loop-line
invariant-loop-line l = l.sum ≡ weighed (λ child. known_weight (place_at l.places child) l.kept l.new child) l.own (take l.line-index l.lines)
