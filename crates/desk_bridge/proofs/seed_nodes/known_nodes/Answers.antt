use Rattle.std.proofs.Common.{arith}
use Rattle.desk_bridge.proofs.SeedSteps.{known_more, known_none}
use Rattle.desk_bridge.proofs.seed_nodes.known_nodes.Goals as goal

pub loop-code-init : goal.loop-code-init
loop-code-init c = known_none c.args.bill.now.labels c.new-nodes.result.items c.new-nodes.ensures.items

pub loop-code-preserved : goal.loop-code-preserved
loop-code-preserved c =
    known_more c.args.bill.now.labels c.args.codes.now c.loop-code.code-index c.code-item.result c.loop-code.nodes.items c.push_known.new.nodes.items (omega arith) c.code-item.is c.loop-code.invariant c.in_ok-push_known.ensures
