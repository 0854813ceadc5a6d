use Rattle.std.proofs.Common.{◌≡◌, Some, None, map, subst, ◌∙◌, arith}
use Rattle.std.proofs.lemmas.Result.{IfOk-weaker}
use Rattle.desk_findings.specs.Rolled.{rolled}
use Rattle.desk_totals.proofs.AmountsGoUp.{amounts_are}
use Rattle.desk_totals.proofs.Distinct.{children_among}
use Rattle.desk_totals.proofs.Settle.{settled-length}
use Rattle.desk_totals.specs.Fit.{fit, fit_with}
use Rattle.desk_totals.specs.Rounds.{IsSettled}
use Rattle.desk_totals.proofs.links.Links.rolled_up.Goals as goal

pub returns-clause-amounts : goal.returns-clause-amounts
returns-clause-amounts c t amount of is_bill its_own =
    let bill = c.args.self.now in
    let own = c.args.own.now in
    let linked = c.settled_amounts.ensures.linked in
    IfOk-weaker c.settled_amounts.result (λ amounts. IsSettled fit_with None bill c.as_slice.result.now amounts.items) (λ amounts. amounts.items ≡ map (λ code. fit (rolled t amount code)) bill.nodes)
    (λ amounts settled.
    let right = subst (λ list. IsSettled fit_with None bill list amounts.items) (c.as_slice.ensures.value ∙ c.in_ok-own.ensures.amounts) settled in
    amounts_are t is_bill bill of linked.distinct (children_among bill t of linked.ends) own (λ i. omega (arith, c.type_inv.own i)) amount its_own amounts.items (settled-length fit_with None bill (map Some own) amounts.items right) right)
    c.settled_amounts.ensures.amounts
