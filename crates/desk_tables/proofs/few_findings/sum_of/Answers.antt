use Rattle.std.proofs.Common.{None, ◌+◌, ◌<◌, [], get_or, length, sym, ap, ◌∙◌, arith}
use Rattle.std.proofs.lemmas.List.{get_or-map, length-map}
use Rattle.std.proofs.lemmas.List.Sums.{sum_by_more}
use Rattle.desk_totals.specs.Fit.{fit}
use Rattle.desk_tables.proofs.few_findings.sum_of.Goals as goal

pub loop-way-preserved : goal.loop-way-preserved
loop-way-preserved c = (
  c.in-Some.ensures.small,
  λ codes count is.
      let i = c.loop-way.way-index in
      let within : i < length codes = omega (arith, c.loop-way-test.true, ap length is, length-map codes (λ code. fit (count code))) in
      let n = count (get_or codes i []) in
      c.in-Some.ensures.sum n (ap (λ list. get_or list i None) is ∙ get_or-map (λ code. fit (count code)) codes i [] None within)
      ∙ ap (λ sum. sum + n) (c.loop-way.invariant.1 codes count is)
      ∙ sym (sum_by_more count codes i [] within),
)
