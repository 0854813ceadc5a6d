use Rattle.desk_model.proofs.KindOrder.{not_empty-are_kinds}
use Rattle.desk_tables.proofs.tested_rows.are_kinds.Goals as goal

pub returns : goal.returns
returns c = not_empty-are_kinds c.args.kinds.now c.is_empty.result c.is_empty.ensures.empty c.is_empty.ensures.form
