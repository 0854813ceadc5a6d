use Rattle.std.proofs.Common.{◌∙◌, length, ap, subst}
use Rattle.std.proofs.lemmas.Result.{IfOk-weaker}
use Rattle.desk_totals.specs.Linked.{IsLinkedOf}
use Rattle.desk_scratch.proofs.Reached.{parts_reached}
use Rattle.desk_scratch.proofs.bill.Bill.reached_parts.Goals as goal

pub returns : goal.returns
returns c =
    let t = c.args.self.now in
    let of = subst (IsLinkedOf c.self.inside.links) c.self.view_is c.self.invariant.1 in
    IfOk-weaker c.reached_in.result _ _
    (λ marks e. e ∙ parts_reached t c.args.part.now c.material_count.result (length c.nodes.result.now) (c.material_count.ensures.count ∙ of.material_count) (ap length (c.nodes.ensures.nodes ∙ of.nodes)))
    c.reached_in.ensures
