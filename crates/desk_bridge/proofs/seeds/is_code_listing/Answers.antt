use Rattle.std.proofs.Common.{◌∙◌, Some, None}
use Rattle.desk_bridge.proofs.SeedSteps.{found_listing}
use Rattle.desk_bridge.proofs.seeds.is_code_listing.Goals as goal

pub returns-in-Some : goal.returns-in-Some
returns-in-Some c = c.lists_substance.ensures ∙ found_listing c.args.tables.now.lists c.in_order.ensures c.args.substance.now c.args.code.now (Some c.in-Some.material.now) c.in-Some.ensures

pub returns-in-None : goal.returns-in-None
returns-in-None c = found_listing c.args.tables.now.lists c.in_order.ensures c.args.substance.now c.args.code.now None c.in-None.ensures
