use Rattle.std.proofs.Common.{◌+◌, ◌*◌, ap, ◌∙◌, arith}
use Rattle.desk_totals.proofs.Fits.{fit_from_checked}
use Rattle.desk_totals.specs.Fit.{fit}
use Rattle.desk_totals.proofs.amounts.sum_with.Goals as goal

pub returns-in-Some : goal.returns-in-Some
returns-in-Some c =
    fit_from_checked c.checked_add.result (c.args.amount + c.in-Some.product) c.checked_add.ensures
    ∙ ap (λ n. fit (c.args.amount + n)) (c.in-Some.ensures.1 ∙ ap (λ n. c.args.child * n) c.from.ensures ∙ omega arith)
