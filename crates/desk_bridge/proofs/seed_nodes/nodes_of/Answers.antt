use Rattle.desk_bridge.proofs.SeedSteps.{known_below, seed_more}
use Rattle.desk_bridge.proofs.seed_nodes.nodes_of.Goals as goal

pub loop-id-init : goal.loop-id-init
loop-id-init c =
    known_below c.args.before.now.labels c.args.bill.now.labels c.requires.grows.0 c.requires.grows.1 c.args.codes.now c.in_ok-nodes.nodes.items c.in_ok-nodes.ensures c.node_count-first_new.result c.node_count-first_new.ensures.count

pub loop-id-preserved : goal.loop-id-preserved
loop-id-preserved c =
    seed_more c.args.bill.now.labels c.args.codes.now c.loop-id.id c.label.result.now c.label.ensures c.is_label_among-is_seed.result c.is_label_among-is_seed.ensures c.loop-id.nodes.items c.push_if.new.list.items c.in_ok-push_if.ensures c.loop-id.invariant
