-- One value more is read.
use Rattle.std.proofs.Common.{◌+◌, ◌-◌, ◌∙◌, ap, arith}
use Rattle.desk_fields.specs.Reading.{times}
use Rattle.desk_fields.proofs.Times.{behind, times_more}
use Rattle.desk_fields.proofs.items.items.Goals as goal

pub loop-preserved : goal.loop-preserved
loop-preserved g c =
    ap (λ xs. behind xs (times (c.args.count - (c.loop.counter + 1)) g.T.Item.reader c.from_fields.new.fields)) c.in_ok-push.ensures.items
    ∙ times_more g.T.Item.reader c.args.count c.loop.counter c.loop.list.items c.loop.fields c.from_fields.new.fields c.in_ok-from_fields.field-0 (omega (arith, c.loop-test.true)) c.in_ok-from_fields.ensures.ok
    ∙ c.loop.invariant
