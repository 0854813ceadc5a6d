use Rattle.desk_bridge.proofs.RowsAfter.{last_of-more}
use Rattle.std.specs.Option.{option_copied}
use Rattle.desk_bridge.proofs.rows_after.last_of_any.Goals as goal

pub loop-row-preserved : goal.loop-row-preserved
loop-row-preserved g c =
    last_of-more g.R.Keyed.key g.R.Key.Ord.cmp c.args.key.now c.args.rows.now c.loop-row.row-index c.row-item.result c.loop-row-test.true c.row-item.is
    (option_copied c.loop-row.found) (option_copied c.newer-found.result) c.loop-row.invariant c.newer-found.ensures
