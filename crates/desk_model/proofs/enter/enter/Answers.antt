use Rattle.desk_model.proofs.Entering.{entered_repeated}
use Rattle.desk_model.proofs.enter.enter.Goals as goal

pub returns-in-Ok-clause-error : goal.returns-in-Ok-clause-error
returns-in-Ok-clause-error g c = λ _. entered_repeated g.R.Keyed.key g.R.Key.Ord.cmp c.args.limit c.args.new c.as_slice.result.now c.args.rows.now.items c.in-Ok.field-0 c.as_slice.ensures.value c.in-Ok.ensures
