-- Whether one of the first was found.
use Rattle.std.proofs.Common.{◌≡◌, take}
use Rattle.std.specs.List.{list_any}
use Rattle.desk_findings.specs.Above.{is_candidate}
use Rattle.desk_scratch.proofs.founds.is_candidate_among.Given as goal

abbrev pub invariant-loop-one : goal.invariant-loop-one
invariant-loop-one l = l.found ≡ list_any (λ one. is_candidate l.tables.lists one.substance) (take l.one-index l.held)
