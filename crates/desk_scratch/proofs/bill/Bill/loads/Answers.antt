use Rattle.std.proofs.Common.{◌≡◌, ◌∙◌, ap, map, sym, subst}
use Rattle.std.specs.Prelude.{IfOk}
use Rattle.std.proofs.lemmas.Result.{IfOk-weaker}
use Rattle.desk_findings.specs.Carried.{carried, own_load}
use Rattle.desk_history.proofs.SoundClauses.{bill_of}
use Rattle.desk_totals.specs.Fit.{fit}
use Rattle.desk_model.specs.Lists.{nodes_of}
use Rattle.desk_scratch.proofs.bill.Bill.loads.Goals as goal

pub returns : goal.returns
returns c =
    let t = c.self.inside.tables.now.lists in
    let substance = c.args.substance.now in
    let own = c.as_slice.ensures.value ∙ c.in_ok-own.ensures in
    subst (λ u. IfOk c.rolled_up.result (λ loads. loads.items ≡ map (λ code. fit (carried u substance code)) (nodes_of u))) c.self.view_is
    (IfOk-weaker c.rolled_up.result _ _ (λ loads e. e ∙ ap (map (λ code. fit (carried t substance code))) c.self.invariant.1.nodes)
    (c.rolled_up.ensures.amounts t (own_load t substance) c.self.invariant.1 (bill_of t c.self.invariant.0.consistent)
    (subst (λ u. c.as_slice.result.now ≡ map (own_load u substance) (nodes_of u)) (sym c.self.view_is) own ∙ ap (map (own_load t substance)) (sym c.self.invariant.1.nodes))))
