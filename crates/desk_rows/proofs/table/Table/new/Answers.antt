use Rattle.desk_rows.proofs.Order.{none_by_key}
use Rattle.desk_rows.proofs.table.Table.new.Goals as goal

pub invariant_of-result : goal.invariant_of-result
invariant_of-result g c = rw c.new.ensures.items (none_by_key g.R.Keyed.key g.R.Key.Ord.cmp g.met.R.Key.Ord.total)
