-- What was appended so far are the lines on the notices among the first candidates, and how many these are.
use Rattle.std.proofs.Common.{◌≡◌, ◌≤◌, ◌++◌, ◌&&◌, [], string_bytes, take}
use Rattle.std.specs.Prelude.{count_by, nat_lt, if◌then◌else◌}
use Rattle.std.specs.List.{flat_map}
use Rattle.desk_text.specs.Day.{is_not_after}
use Rattle.desk_model.specs.declared.limits.TheConstants.{TONNE}
use Rattle.desk_findings.specs.Tonnage.{tonnage}
use Rattle.desk_scratch.specs.Reach7.{notice_line}
use Rattle.desk_scratch.proofs.reach7.push_notices.Given as goal

abbrev pub invariant-loop-candidate : goal.invariant-loop-candidate
invariant-loop-candidate l = record {
  place : l.place ≡ l.candidate-index;
  same : l.candidate-items ≡ l.tables.lists.candidates;
  lines : string_bytes l.out
      ≡ string_bytes l.fn.out
      ++ flat_map (λ candidate. if is_not_after candidate.day l.day && nat_lt TONNE (tonnage l.tables.lists l.year candidate.substance) then notice_line l.tables.lists l.year candidate else [])
      (take l.candidate-index l.candidate-items);
  bound : l.count ≤ l.candidate-index;
  count : l.count ≡ count_by (λ candidate. is_not_after candidate.day l.day && nat_lt TONNE (tonnage l.tables.lists l.year candidate.substance)) (take l.candidate-index l.candidate-items);
}
