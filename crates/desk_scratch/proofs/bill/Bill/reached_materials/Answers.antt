use Rattle.std.proofs.Common.{◌∙◌, subst}
use Rattle.std.proofs.lemmas.Result.{IfOk-weaker}
use Rattle.desk_history.specs.Sound.{Sound}
use Rattle.desk_totals.specs.Linked.{IsLinkedOf}
use Rattle.desk_scratch.proofs.Reached.{materials_reached}
use Rattle.desk_scratch.proofs.bill.Bill.reached_materials.Goals as goal

pub returns : goal.returns
returns c =
    let t = c.args.self.now in
    let of = subst (IsLinkedOf c.self.inside.links) c.self.view_is c.self.invariant.1 in
    let s = subst Sound c.self.view_is c.self.invariant.0 in
    IfOk-weaker c.reached_in.result _ _
    (λ marks e. e ∙ materials_reached t c.args.part.now s.consistent.codes_apart c.requires c.material_count.result (c.material_count.ensures.count ∙ of.material_count)) c.reached_in.ensures
