-- The products of the first nodes are found.
use Rattle.std.proofs.Common.{take}
use Rattle.desk_engine.proofs.Products.{AreFound}
use Rattle.desk_engine.proofs.stored_uses.products_by_node.Given as goal

abbrev pub invariant-loop-node : goal.invariant-loop-node
invariant-loop-node l = AreFound l.tables.lists l.stored.bill.labels (take l.node-index l.nodes) l.products.rows
