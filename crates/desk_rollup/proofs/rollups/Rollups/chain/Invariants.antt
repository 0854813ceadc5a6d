use Rattle.std.proofs.Common.{◌≡◌, ◌+◌, ◌-◌, ◌++◌, ◌∷◌, length}
use Rattle.desk_rollup.specs.Chain.{way}
use Rattle.desk_rollup.specs.Numbers.{mark_number}
use Rattle.desk_rollup.proofs.rollups.Rollups.chain.Given as goal

abbrev pub invariant-loop : goal.invariant-loop
invariant-loop g l =
    (l.nodes.items ++ way l.self.rolled (mark_number l.mark) (length l.self.rolled - l.counter) l.at ≡ l.from ∷ way l.self.rolled (mark_number l.mark) (length l.self.rolled) l.from)
    × (l.steps ≡ l.initial.steps + l.counter) × (length l.nodes.items ≡ l.counter + 1)
