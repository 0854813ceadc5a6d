use Rattle.std.proofs.Common.{◌≡◌, ℕ, true, take}
use Rattle.desk_rollup.specs.Changed.{DoGrow, IsSteady}
use Rattle.desk_rollup.specs.Numbers.{has, hop_numbers}
use Rattle.desk_rollup.proofs.changed_marks.ChangedMarks.add_missing.Given as goal

abbrev pub invariant-loop-hop : goal.invariant-loop-hop
invariant-loop-hop l =
    DoGrow l.initial.self l.self
    × ((mark : ℕ) → IsSteady l.self mark → has (hop_numbers (take l.hop-index l.hops)) mark ≡ true → has (hop_numbers l.others) mark ≡ true)
