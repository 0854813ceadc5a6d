-- The sums so far are those of the first candidates.
use Rattle.std.proofs.Common.{◌≡◌, map, take}
use Rattle.desk_findings.specs.Tonnage.{tonnage}
use Rattle.desk_engine.proofs.stored_loads.stored_tonnages.Given as goal

abbrev pub invariant-loop-candidate : goal.invariant-loop-candidate
invariant-loop-candidate l = record {
  same : l.candidate-items ≡ l.tables.lists.candidates;
  sums : l.sums.items ≡ map (λ candidate. tonnage l.tables.lists l.year candidate.substance) (take l.candidate-index l.candidate-items);
}
