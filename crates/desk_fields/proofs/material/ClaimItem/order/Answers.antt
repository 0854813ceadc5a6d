use Rattle.std.proofs.Common.{◌∙◌, ap}
use Rattle.desk_law.proofs.Orders.{claims_in_order}
use Rattle.desk_fields.proofs.material.ClaimItem.order.Goals as goal

pub returns : goal.returns
returns c = c.cmp.ensures ∙ ap (λ cmp. cmp c.args.self.now c.args.other.now) claims_in_order
