-- No value is left that has one behind it.
use Rattle.std.proofs.Common.{◌-◌, ◌∙◌, arith, sym}
use Rattle.desk_fields.proofs.Times.{turn_end}
use Rattle.desk_fields.proofs.items.in_turn.Goals as goal

pub returns : goal.returns
returns g c = sym (turn_end g.T.Item.order c.args.list.now (c.loop-place.place - 1) (omega (arith, c.loop-place-test.false, c.loop-place.invariant.0))) ∙ c.loop-place.invariant.1
