use Rattle.std.proofs.Common.{◌∙◌, ap, sym}
use Rattle.std.specs.Option.{option_or}
use Rattle.desk_rows.specs.Rows.{row_of}
use Rattle.desk_bridge.proofs.RowsAfter.{row_of-with_rows}
use Rattle.desk_bridge.proofs.rows_after.row_with_all.Goals as goal

pub returns-in-Some : goal.returns-in-Some
returns-in-Some g c =
    ap (λ found. option_or found (row_of g.R.Keyed.key g.R.Key.Ord.cmp c.args.key.now c.args.rows.now)) c.in-Some.ensures
    ∙ sym (row_of-with_rows g.R.Keyed.key g.R.Key.Ord.cmp g.met.R.Key.Ord.total c.args.key.now c.args.more.now c.args.rows.now)

pub returns-in-None : goal.returns-in-None
returns-in-None g c =
    c.row_of.ensures
    ∙ ap (λ found. option_or found (row_of g.R.Keyed.key g.R.Key.Ord.cmp c.args.key.now c.args.rows.now)) c.in-None.ensures
    ∙ sym (row_of-with_rows g.R.Keyed.key g.R.Key.Ord.cmp g.met.R.Key.Ord.total c.args.key.now c.args.more.now c.args.rows.now)
