use Rattle.std.proofs.Common.{◌≡◌, ◌++◌, drop, length}
use Rattle.desk_engine.specs.Planned.{node_rows_from}
use Rattle.desk_engine.proofs.nodes.new_nodes.Given as goal

abbrev pub invariant-loop-id : goal.invariant-loop-id
invariant-loop-id l = l.nodes.items ++ node_rows_from l.id (drop l.id l.after.labels) ≡ node_rows_from (length l.bill.labels) (drop (length l.bill.labels) l.after.labels)
