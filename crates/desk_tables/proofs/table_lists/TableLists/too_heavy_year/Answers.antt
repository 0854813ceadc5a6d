use Rattle.std.proofs.Common.{◌∙◌, ap, sym, is_some, not, arith}
use Rattle.desk_tables.proofs.HeavyYears.{least_heavy, none_heavy}
use Rattle.desk_tables.proofs.table_lists.TableLists.too_heavy_year.Goals as goal

pub returns-then-is_none : goal.returns-then-is_none
returns-then-is_none c =
    let over = ap is_some (sym c.mass_of_year.ensures) ∙ c.is_none.ensures ∙ ap not c.if-is_none.true in
    least_heavy c.args.self.now c.loop-year.year c.requires.consistent c.loop-year.invariant over

pub returns : goal.returns
returns c = none_heavy c.args.self.now c.loop-year.year c.requires.consistent c.loop-year.invariant (omega (arith, c.loop-year-test.false))
