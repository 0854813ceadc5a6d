use Rattle.std.proofs.Common.{◌∙◌, ap}
use Rattle.std.specs.List.{list_any}
use Rattle.desk_text.specs.Code.{same_code}
use Rattle.desk_history.specs.Affected.{materials_listing}
use Rattle.desk_bridge.proofs.SeedSteps.{run_is}
use Rattle.desk_bridge.proofs.seeds.leads_to_listing.Goals as goal

pub returns : goal.returns
returns c =
    c.lead_to_listing.ensures
    ∙ ap (λ lines. list_any (λ line. list_any (same_code line.child) (materials_listing c.args.tables.now.lists c.args.substance.now)) lines)
    (run_is c.args.tables.now.lists c.in_order.ensures c.args.part.now c.lines.result.now c.run_of.result.now c.lines.ensures c.run_of.ensures)
