-- The findings so far are those on the reached ones of the first materials.
use Rattle.std.proofs.Common.{◌≡◌, ◌++◌, [], map, take}
use Rattle.std.specs.Prelude.{if◌then◌else◌}
use Rattle.std.specs.List.{flat_map}
use Rattle.desk_findings.specs.Findings.{findings_on}
use Rattle.desk_findings.specs.Reaches.{reaches}
use Rattle.desk_scratch.specs.LookUps.{finding_of}
use Rattle.desk_scratch.proofs.bill.Bill.push_on_materials.Given as goal

abbrev pub invariant-loop-material : goal.invariant-loop-material
invariant-loop-material l = record {
  place : l.place ≡ l.material-index;
  same : l.material-items ≡ l.self.materials;
  list : map finding_of l.list.items
      ≡ map finding_of l.fn.list.items
      ++ flat_map (λ material. if reaches l.self l.part material.code then findings_on l.self material else []) (take l.material-index l.material-items);
}
