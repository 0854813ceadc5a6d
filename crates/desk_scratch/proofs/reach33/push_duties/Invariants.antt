-- What was appended so far are the lines on the duties among the first findings, and how many these are.
use Rattle.std.proofs.Common.{◌≡◌, ◌≤◌, ◌++◌, [], string_bytes, take}
use Rattle.std.specs.Prelude.{count_by, if◌then◌else◌}
use Rattle.std.specs.List.{flat_map}
use Rattle.desk_scratch.specs.LookUps.{duty_of, finding_of, is_finding_due}
use Rattle.desk_scratch.specs.Reach33.{duty_lines}
use Rattle.desk_scratch.proofs.reach33.push_duties.Given as goal

abbrev pub invariant-loop-finding : goal.invariant-loop-finding
invariant-loop-finding g l =
    let t = g.S.AnswerSource.lists l.source in
    record {
      lines : string_bytes l.out
          ≡ string_bytes l.fn.out
          ++ flat_map (λ finding. if is_finding_due t l.day (finding_of finding) then duty_lines t l.part (duty_of (finding_of finding)) else []) (take l.finding-index l.findings);
      bound : l.count ≤ l.finding-index;
      count : l.count ≡ count_by (λ finding. is_finding_due t l.day (finding_of finding)) (take l.finding-index l.findings);
    }
