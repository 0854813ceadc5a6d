-- What was appended so far are the lines on the first findings, of which some was a breach or none.
use Rattle.std.proofs.Common.{◌≡◌, ◌+◌, ◌++◌, string_bytes, sum_by, take}
use Rattle.std.specs.List.{flat_map, list_any}
use Rattle.desk_scratch.specs.LookUps.{finding_of, is_finding_breached, lines_on}
use Rattle.desk_scratch.specs.Steps.{printed_lines}
use Rattle.desk_scratch.proofs.rohs.push_findings.Given as goal

abbrev pub invariant-loop-finding : goal.invariant-loop-finding
invariant-loop-finding g l =
    let t = g.S.AnswerSource.lists l.source in
    record {
      lines : string_bytes l.out ≡ string_bytes l.fn.out ++ flat_map (λ finding. lines_on t l.product l.by.day (finding_of finding)) (take l.finding-index l.findings);
      breach : l.breach ≡ list_any (λ finding. is_finding_breached t l.product.kind l.by.day (finding_of finding)) (take l.finding-index l.findings);
      steps : l.steps ≡ l.fn.steps + sum_by (λ finding. printed_lines t l.product l.by.day (finding_of finding)) (take l.finding-index l.findings);
    }
