use Rattle.std.proofs.Common.{◌≡◌, ◌≤◌, ◌*◌, ◌^◌, take}
use Rattle.desk_model.specs.Lists.{material_row}
use Rattle.desk_findings.specs.OwnValues.{mass_of_lines}
use Rattle.desk_bridge.proofs.holdings.weight_of.Given as goal

abbrev pub invariant-loop-line : goal.invariant-loop-line
invariant-loop-line l = record {
  sum : l.sum ≡ mass_of_lines (material_row l.lists) (take l.line-index l.lines);
  small : l.sum ≤ l.line-index * 2 ^ 96;
}
