use Rattle.std.proofs.Common.{◌+◌, ◌*◌, ap, ◌∙◌, arith}
use Rattle.desk_scratch.proofs.Descents.{known_some}
use Rattle.desk_scratch.proofs.sub_bill.with_times.Goals as goal

pub returns : goal.returns
returns c =
    known_some c.checked_add.result _ _ _ c.checked_add.ensures
    (ap (λ n. c.args.sum + n) (c.in_ok-checked_mul.ensures.1 ∙ ap (λ n. c.args.amount * n) c.from.ensures ∙ omega arith))
