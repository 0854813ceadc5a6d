use Rattle.desk_bridge.specs.Bridge.{IsBillOf}
use Rattle.desk_bridge.specs.Building.{with_first}
use Rattle.desk_bridge.specs.Index.{IsIndex}
use Rattle.desk_bridge.proofs.building.add_lines.Given as goal

abbrev pub invariant-loop-place : goal.invariant-loop-place
invariant-loop-place l = IsBillOf (with_first l.tables.lists l.place) l.bill × IsIndex l.bill.labels l.index.rows
