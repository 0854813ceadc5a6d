-- The loads so far are those of the first candidates that are carried.
use Rattle.std.proofs.Common.{◌≡◌, ◌==◌, ◌∷◌, [], not, take}
use Rattle.std.specs.Prelude.{if◌then◌else◌}
use Rattle.std.specs.List.{flat_map}
use Rattle.desk_findings.specs.Carried.{carried}
use Rattle.desk_scratch.specs.LookUps.{load_of}
use Rattle.desk_engine.proofs.stored_loads.stored_loads.Given as goal

abbrev pub invariant-loop-candidate : goal.invariant-loop-candidate
invariant-loop-candidate l = record {
  same : l.candidate-items ≡ l.tables.lists.candidates;
  list : l.list.items
      ≡ flat_map (λ candidate. if not (carried l.tables.lists candidate.substance l.part == 0) then load_of l.tables.lists l.part candidate ∷ [] else []) (take l.candidate-index l.candidate-items);
}
