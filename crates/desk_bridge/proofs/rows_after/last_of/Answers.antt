use Rattle.std.proofs.Common.{◌∙◌, sym}
use Rattle.desk_bridge.proofs.RowsAfter.{last_is_first}
use Rattle.desk_bridge.proofs.rows_after.last_of.Goals as goal

pub returns-then-rise : goal.returns-then-rise
returns-then-rise g c =
    c.row_of.ensures ∙ sym (last_is_first g.R.Keyed.key g.R.Key.Ord.cmp g.met.R.Key.Ord.total c.args.key.now c.args.rows.now (c.requires c.if-rise.true))
