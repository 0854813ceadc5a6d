use Rattle.std.proofs.Common.{◌≡◌, ℕ, ◌+◌, ◌-◌, ◌<◌, List, ◌++◌, drop, length}
use Rattle.desk_findings.specs.Chain.{chain_within}
use Rattle.desk_model.specs.declared.rows.line.LineRow.{LineRow}
use Rattle.desk_totals.specs.Next.{AreNext}
use Rattle.desk_totals.specs.Places.{node_at}
use Rattle.desk_totals.proofs.chain.walk.Given as goal

abbrev pub invariant-loop-step : goal.invariant-loop-step
invariant-loop-step l =
    (l.at < length l.nodes)
    × ((lines : List LineRow) (deep : ℕ) → AreNext l.nodes l.next lines deep l.target →
    l.codes.items ++ drop 1 (chain_within lines deep (length l.nodes + 2 - l._step) (node_at l.nodes l.at) l.target)
    ≡ chain_within lines deep (length l.nodes + 2) (node_at l.nodes l.fn.start) l.target)
