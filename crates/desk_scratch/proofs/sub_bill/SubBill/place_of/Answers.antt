use Rattle.std.proofs.Common.{◌≡◌, ◌<◌, [], ap, sym, subst, length, ◌∙◌}
use Rattle.desk_model.proofs.Kept.{same_code-true}
use Rattle.desk_totals.specs.Places.{node_at}
use Rattle.desk_scratch.proofs.sub_bill.SubBill.place_of.Goals as goal

pub returns-then-eq : goal.returns-then-eq
returns-then-eq c =
    let read = c.in_ok-get.ensures.lookup.3 in
    let codes = c.deref-2.ensures.value ∙ ap (λ v. v.codes) c.self.view_is in
    subst (λ list. (c.in_ok-place.field-0.now < length list) × (node_at list c.in_ok-place.field-0.now ≡ c.args.code.now)) codes
    (read.0, sym (read.1 []) ∙ same_code-true c.in_ok-get.field-0.now c.args.code.now (sym c.eq.ensures ∙ c.if-eq.true))
