use Rattle.std.proofs.Common.{◌≡◌, ℕ, List, ◌+◌, drop}
use Rattle.desk_model.specs.Lists.{material_row}
use Rattle.desk_findings.specs.OwnValues.{content_of_lines}
use Rattle.desk_bridge.specs.Own.{amount_held}
use Rattle.desk_bridge.proofs.holdings.held_by.Given as goal

abbrev pub invariant-loop-line : goal.invariant-loop-line
invariant-loop-line l =
    (substance : List ℕ) → amount_held l.held.rows substance + content_of_lines (material_row l.lists) (drop l.line-index l.lines) substance ≡ content_of_lines (material_row l.lists) l.lines substance
