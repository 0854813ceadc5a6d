-- Whether one of the first was found.
use Rattle.std.proofs.Common.{◌≡◌, take}
use Rattle.std.specs.List.{list_any}
use Rattle.desk_scratch.specs.LookUps.{holds_candidate}
use Rattle.desk_scratch.proofs.founds.is_candidate_below.Given as goal

abbrev pub invariant-loop-line : goal.invariant-loop-line
invariant-loop-line l = l.found ≡ list_any (λ line. holds_candidate l.tables.lists line.child) (take l.line-index l.lines)
