-- The findings so far are those on the first candidates.
use Rattle.std.proofs.Common.{◌≡◌, ◌++◌, ◌∷◌, [], map, take}
use Rattle.std.specs.Prelude.{if◌then◌else◌}
use Rattle.std.specs.List.{flat_map}
use Rattle.desk_findings.specs.Above.{is_above}
use Rattle.desk_findings.specs.Findings.{above}
use Rattle.desk_scratch.specs.LookUps.{finding_of}
use Rattle.desk_scratch.proofs.bill.Bill.push_aboves.Given as goal

abbrev pub invariant-loop-candidate : goal.invariant-loop-candidate
invariant-loop-candidate l = record {
  same : l.candidate-items ≡ l.self.candidates;
  list : map finding_of l.list.items
      ≡ map finding_of l.fn.list.items
      ++ flat_map (λ candidate. if is_above l.self l.article.code candidate.substance then above l.article.code candidate.substance ∷ [] else []) (take l.candidate-index l.candidate-items);
}
