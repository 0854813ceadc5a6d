use Rattle.std.proofs.Common.{◌≡◌, ◌≤◌, ℕ, length, vec_capacity, IfSome}
use Rattle.desk_rollup.specs.Values.{hop_total, own_at, rolled_at}
use Rattle.desk_rollup.proofs.rollups.Rollups.grow.Given as goal

abbrev pub invariant-loop : goal.invariant-loop
invariant-loop l =
    (length l.self-inside.owns.items ≡ l.counter)
    × (length l.self-inside.rolled.items ≡ l.counter)
    × ((node : ℕ) → own_at l.self-inside.owns.items node ≡ own_at l.initial.self-inside.owns.items node)
    × ((node : ℕ) → rolled_at l.self-inside.rolled.items node ≡ rolled_at l.initial.self-inside.rolled.items node)
    × IfSome l.self-inside.hops (λ hops. hops ≡ hop_total l.self-inside.rolled.items)
    × (24576 ≤ vec_capacity l.self-inside.owns)
    × (24576 ≤ vec_capacity l.self-inside.rolled)
