use Rattle.std.proofs.Common.{◌≡◌, length, ap, arith}
use Rattle.desk_bridge.proofs.Built.{bill_at_last}
use Rattle.desk_bridge.proofs.building.add_lines.Goals as goal

pub returns-clause-bill : goal.returns-clause-bill
returns-clause-bill c =
    let all : c.loop-place.place ≡ length c.args.tables.now.lists.lines = omega (arith, c.loop-place-test.false, c.loop-place.auto.place-end, ap length c.lines-count.ensures) in
    bill_at_last c.args.tables.now.lists c.loop-place.bill c.loop-place.place all c.loop-place.invariant.0
