use Rattle.std.proofs.Common.{take}
use Rattle.desk_bridge.specs.Seeds.{AreNodesOf}
use Rattle.desk_bridge.proofs.seed_nodes.known_nodes.Given as goal

abbrev pub invariant-loop-code : goal.invariant-loop-code
invariant-loop-code l = AreNodesOf l.bill.labels (take l.code-index l.codes) l.nodes.items
