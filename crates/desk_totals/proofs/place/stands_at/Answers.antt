use Rattle.std.proofs.Common.{[], sym, ◌∙◌}
use Rattle.desk_model.proofs.Kept.{same_code-true}
use Rattle.desk_totals.proofs.place.stands_at.Goals as goal

pub returns-in-Some : goal.returns-in-Some
returns-in-Some c =
    let read = c.in-Some.ensures.lookup.3 in λ e. (read.0, sym (read.1 []) ∙ same_code-true c.in-Some.node.now c.args.code.now (sym c.eq.ensures ∙ e))
