use Rattle.std.proofs.Common.{ap, ◌∙◌}
use Rattle.desk_law.proofs.Orders.{claims_in_order}
use Rattle.desk_tables.proofs.content.order_of.Goals as goal

pub returns : goal.returns
returns c = c.cmp.ensures ∙ ap (λ cmp. cmp c.args.first.now c.args.second.now) claims_in_order
