-- How many of the first findings are breaches, at most one for each.
use Rattle.std.proofs.Common.{◌≡◌, ◌≤◌, count_by, take}
use Rattle.desk_scratch.specs.LookUps.{finding_of, is_finding_breached}
use Rattle.desk_scratch.proofs.summary.breach_count.Given as goal

abbrev pub invariant-loop-finding : goal.invariant-loop-finding
invariant-loop-finding l = record {
  bound : l.count ≤ l.finding-index;
  count : l.count ≡ count_by (λ finding. is_finding_breached l.by.lists l.by.kind l.by.day (finding_of finding)) (take l.finding-index l.findings);
}
