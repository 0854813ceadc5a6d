use Rattle.std.proofs.Common.{◌+◌, ◌*◌, ◌^◌, ◌<◌, subst, ap, ◌∙◌, arith}
use Rattle.desk_totals.proofs.Fits.{fit_from_checked}
use Rattle.desk_totals.specs.Fit.{fit}
use Rattle.desk_tables.proofs.HeavyYears.{sum_over}
use Rattle.desk_tables.proofs.heavy_years.sum_with.Goals as goal

pub returns-in-Some : goal.returns-in-Some
returns-in-Some c =
    fit_from_checked c.checked_add.result (c.args.total + c.in-Some.product) c.checked_add.ensures
    ∙ ap (λ n. fit (c.args.total + n)) (c.in-Some.ensures.1 ∙ ap (λ n. c.args.mass * n) c.from.ensures ∙ omega arith)

pub returns-in-None : goal.returns-in-None
returns-in-None c = sum_over c.args.total c.args.units c.args.mass (subst (λ n. c.args.mass * n < 2 ^ 128 → ⊥) c.from.ensures c.in-None.ensures)
