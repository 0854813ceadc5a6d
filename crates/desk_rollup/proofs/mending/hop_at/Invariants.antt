use Rattle.std.proofs.Common.{◌≡◌, ℕ, Bool, drop, find}
use Rattle.desk_rollup.specs.Numbers.{has, hop_numbers}
use Rattle.desk_rollup.specs.Places.{known, place_at}
use Rattle.desk_rollup.proofs.mending.hop_at.Given as goal

abbrev pub invariant-loop-line : goal.invariant-loop-line
invariant-loop-line l =
    let has_it : ℕ → Bool = λ child. has (hop_numbers (known (place_at l.values.places.now child) l.values.kept.now l.values.new.now child).hops) l.number in
    find (λ line. has_it line.node) l.lines ≡ find (λ line. has_it line.node) (drop l.line-index l.lines)
