-- Of how many of the first findings one has to inform, at most of each.
use Rattle.std.proofs.Common.{◌≡◌, ◌≤◌, count_by, take}
use Rattle.desk_scratch.specs.LookUps.{finding_of, is_finding_due}
use Rattle.desk_scratch.proofs.summary.duty_count.Given as goal

abbrev pub invariant-loop-finding : goal.invariant-loop-finding
invariant-loop-finding l = record {
  bound : l.count ≤ l.finding-index;
  count : l.count ≡ count_by (λ finding. is_finding_due l.tables.lists l.day (finding_of finding)) (take l.finding-index l.findings);
}
