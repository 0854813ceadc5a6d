use Rattle.std.proofs.Common.{◌∙◌, ap, is_eq, sym}
use Rattle.desk_rows.proofs.Lookups.{row_of-without_row_other}
use Rattle.desk_bridge.proofs.RowsAfter.{found_without}
use Rattle.desk_bridge.proofs.rows_after.row_without.Goals as goal

pub returns-then-is_eq : goal.returns-then-is_eq
returns-then-is_eq g c =
    sym
    (found_without g.R.Keyed.key g.R.Key.Ord.cmp g.met.R.Key.Ord.total c.args.dropped.now c.args.key.now c.args.rows.now c.requires
    (ap is_eq (sym c.cmp.ensures) ∙ sym c.is_eq.ensures ∙ c.if-is_eq.true))

pub returns : goal.returns
returns g c =
    c.row_of.ensures
    ∙ sym
    (row_of-without_row_other g.R.Keyed.key g.R.Key.Ord.cmp g.met.R.Key.Ord.total c.args.dropped.now c.args.key.now c.args.rows.now
    (ap is_eq (sym c.cmp.ensures) ∙ sym c.is_eq.ensures ∙ c.if-is_eq.false))
