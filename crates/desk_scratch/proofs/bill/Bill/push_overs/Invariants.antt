-- The findings so far are those on the first rules over whose limit the material is.
use Rattle.std.proofs.Common.{◌≡◌, ◌++◌, ◌∷◌, [], map, take}
use Rattle.std.specs.Prelude.{if◌then◌else◌}
use Rattle.std.specs.List.{flat_map}
use Rattle.desk_law.specs.Rule.{restricting_rules}
use Rattle.desk_findings.specs.Findings.{over}
use Rattle.desk_findings.specs.Share.{is_over_limit}
use Rattle.desk_scratch.specs.LookUps.{finding_of}
use Rattle.desk_scratch.proofs.bill.Bill.push_overs.Given as goal

abbrev pub invariant-loop-rule : goal.invariant-loop-rule
invariant-loop-rule l = record {
  rules : l.rule-items ≡ restricting_rules;
  list : map finding_of l.list.items
      ≡ map finding_of l.fn.list.items
      ++ flat_map (λ rule. if is_over_limit l.self rule l.material then over l.material.code rule ∷ [] else []) (take l.rule-index l.rule-items);
}
