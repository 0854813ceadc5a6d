use Rattle.std.proofs.Common.{◌≡◌, ℕ, Some, true, take}
use Rattle.desk_rollup.specs.Gathered.{HaveNone}
use Rattle.desk_rollup.specs.Places.{known, place_at}
use Rattle.desk_rollup.specs.Values.{RolledValues}
use Rattle.desk_rollup.specs.Weights.{weighed}
use Rattle.desk_rollup.proofs.roller.sum_up.Given as goal

abbrev pub invariant-loop-line : goal.invariant-loop-line
invariant-loop-line l =
    let below : ℕ → RolledValues = λ child. known (place_at l.values.places.now child) l.values.kept.now l.values.new.now child in
    (Some l.weight ≡ weighed (λ child. Some (below child).weight) l.own (take l.line-index l.lines))
    × (l.has_none ≡ true → HaveNone below (take l.line-index l.lines))
