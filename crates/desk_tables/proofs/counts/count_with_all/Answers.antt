use Rattle.desk_tables.proofs.PutCounts.{counted}
use Rattle.desk_tables.proofs.counts.count_with_all.Goals as goal

pub returns : goal.returns
returns g c =
    counted g.R.Keyed.key g.R.Key.Ord.cmp g.met.R.Key.Ord.total c.args.more.now c.args.rows.now c.loop-row.count c.loop-row.row-index c.requires.rows c.requires.more c.loop-row-test.false c.loop-row.invariant.count
