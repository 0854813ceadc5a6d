use Rattle.std.proofs.Common.{◌≡◌, ◌+◌, ◌≤◌}
use Rattle.desk_scratch.proofs.bill.count_lines.Given as goal

-- a step for each line so far
abbrev pub invariant-loop : goal.invariant-loop
invariant-loop g l = (l.steps ≡ l.fn.steps + l.counter) × (l.counter ≤ l.lines)
