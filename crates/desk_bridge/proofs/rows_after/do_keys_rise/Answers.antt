-- None is left that has one behind it.
use Rattle.std.proofs.Common.{◌-◌, ◌∙◌, ap, arith, is_lt, sym}
use Rattle.std.specs.Ordering.{on}
use Rattle.desk_fields.proofs.Times.{turn_end}
use Rattle.desk_tables.proofs.RisingContent.{goes_on, stops_at}
use Rattle.desk_bridge.proofs.rows_after.do_keys_rise.Goals as goal

pub returns : goal.returns
returns g c = sym (turn_end (on g.R.Keyed.key g.R.Key.Ord.cmp) c.args.rows.now (c.loop-place.place - 1) (omega (arith, c.loop-place-test.false, c.loop-place.invariant.0))) ∙ c.loop-place.invariant.1

pub returns-then-not-is_lt : goal.returns-then-not-is_lt
returns-then-not-is_lt g c =
    stops_at (on g.R.Keyed.key g.R.Key.Ord.cmp) c.args.rows.now c.loop-place.place c.index-rows-place.result c.index-rows-place-in-loop-place.result c.loop-place.invariant.0 c.loop-place-test.true
    c.index-rows-place.is c.index-rows-place-in-loop-place.is (ap is_lt (sym c.compare_row.ensures) ∙ sym c.if-not-is_lt.ensures) ∙ c.loop-place.invariant.1

pub loop-place-preserved : goal.loop-place-preserved
loop-place-preserved g c = (
  omega arith,
  goes_on (on g.R.Keyed.key g.R.Key.Ord.cmp) c.args.rows.now c.loop-place.place c.index-rows-place.result c.index-rows-place-in-loop-place.result c.loop-place.invariant.0 c.loop-place-test.true
      c.index-rows-place.is c.index-rows-place-in-loop-place.is (ap is_lt (sym c.compare_row.ensures) ∙ sym c.if-not-is_lt.ensures) ∙ c.loop-place.invariant.1,
)
