use Rattle.desk_totals.proofs.ForTables.{with_itself}
use Rattle.desk_totals.proofs.laws.parts_with_itself.Goals as goal

pub returns : goal.returns
returns c t ordered is_bill code kept = with_itself t ordered is_bill code kept
