use Rattle.std.proofs.Common.{◌≡◌, map, take}
use Rattle.desk_bridge.specs.Own.{holding_mark}
use Rattle.desk_bridge.proofs.own.marks_of.Given as goal

abbrev pub invariant-loop-holding : goal.invariant-loop-holding
invariant-loop-holding l = l.marks.items ≡ map (holding_mark l.names l.node) (take l.holding-index l.above)
