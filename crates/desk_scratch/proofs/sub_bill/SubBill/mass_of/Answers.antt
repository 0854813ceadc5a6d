use Rattle.std.proofs.Common.{◌*◌, ap, map, subst, sum_by, sym, ◌∙◌}
use Rattle.std.specs.Prelude.{option_copied}
use Rattle.std.proofs.lemmas.Option.{IfSome_then}
use Rattle.desk_model.specs.Lists.{material_row}
use Rattle.desk_findings.specs.Mass.{mass}
use Rattle.desk_history.specs.Sound.{Sound}
use Rattle.desk_scratch.proofs.Descents.{lines_weigh, material_weighs, of_all}
use Rattle.desk_scratch.proofs.sub_bill.SubBill.mass_of.Goals as goal

pub returns-in-Some : goal.returns-in-Some
returns-in-Some c =
    let t = c.args.self.now.lists in
    let code = c.args.code.now in
    c.from.ensures
    ∙ sym (material_weighs t (subst (λ v. Sound v.lists) c.self.view_is c.self.invariant.0) code c.in-Some.material.now
    (ap (λ v. material_row v.lists code) (sym c.self.view_is) ∙ sym c.material.ensures ∙ ap option_copied c.in-Some.is))

pub returns-in-None : goal.returns-in-None
returns-in-None c =
    let t = c.args.self.now.lists in
    let code = c.args.code.now in
    let none = ap (λ v. material_row v.lists code) (sym c.self.view_is) ∙ sym c.material.ensures ∙ ap option_copied c.in-None.is in
    let masses = c.as_slice.ensures.value ∙ c.self.invariant.1 ∙ ap (λ v. map (mass v.lists) v.codes) c.self.view_is in
    IfSome_then c.sum_of.result (c.sum_of.ensures (mass t) (of_all (mass t) c.as_slice.result.now c.args.self.now.codes masses))
    (λ sum e. e ∙ ap (sum_by (λ line. line.count * mass t line.child)) c.lines_of.ensures
    ∙ sym (lines_weigh t (subst (λ v. Sound v.lists) c.self.view_is c.self.invariant.0) code none))
