-- The lines are those of what was read before and of the bytes before those that are left.
use Rattle.std.proofs.Common.{◌≡◌, ℕ, List, ◌++◌, length}
use Rattle.desk_report.specs.ReadLines.{AreLinesOf}
use Rattle.desk_report.proofs.lines.Lines.with_bytes.Given as goal

abbrev pub invariant-loop-end : goal.invariant-loop-end
invariant-loop-end l = (done : List ℕ) × (l.bytes ≡ done ++ l.rest)
    × ((read : List ℕ) → AreLinesOf read l.fn.self → AreLinesOf (read ++ done) l.lines)

abbrev pub decreases-loop-end : goal.decreases-loop-end
decreases-loop-end l = length l.rest
