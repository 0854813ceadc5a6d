use Rattle.desk_bridge.proofs.SeedSteps.{none_found, pushed_found}
use Rattle.desk_bridge.proofs.seed_nodes.push_known.Goals as goal

pub returns-in_ok-push-in-Some : goal.returns-in_ok-push-in-Some
returns-in_ok-push-in-Some c =
    pushed_found c.args.bill.now.labels c.node_count.ensures.bill.unique c.args.code.now c.in-Some.node (c.in-Some.ensures.node c.args.bill.now.labels c.requires) c.args.nodes.now.items c.push.new.self.items c.in_ok-push-in-Some.ensures.items

pub returns-in-None : goal.returns-in-None
returns-in-None c = none_found c.args.bill.now.labels c.node_count.ensures.bill.unique c.args.code.now (c.in-None.ensures.node c.args.bill.now.labels c.requires) c.args.nodes.now.items
