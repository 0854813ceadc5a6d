use Rattle.std.proofs.Common.{◌+◌, ◌*◌, ◌^◌}
use Rattle.desk_findings.specs.Above.{held_mass}
use Rattle.desk_bridge.specs.Own.{amount_held}
use Rattle.desk_bridge.proofs.HeldAmounts.{all_added, one_added, one_fits}
use Rattle.desk_bridge.proofs.holdings.add_substances.Goals as goal

pub add-requires : goal.add-requires
add-requires c =
    rw (c.from.ensures, c.from-in-loop-one.ensures)
    (one_fits c.args.substances.now c.requires.distinct c.args.count c.loop-one.one-index c.one-item.result c.loop-one-test.true c.one-item.is (2 ^ 128)
    (amount_held c.loop-one.held.rows c.one-item.result.substance)
    (amount_held c.args.held.now.rows c.one-item.result.substance + c.args.count * held_mass c.one-item.result.substance c.args.substances.now)
    (c.loop-one.invariant c.one-item.result.substance) (c.requires.fits c.one-item.result.substance))

pub returns : goal.returns
returns c = λ substance.
    all_added c.args.substances.now c.args.count c.loop-one.one-index substance (amount_held c.loop-one.held.rows substance)
    (amount_held c.args.held.now.rows substance + c.args.count * held_mass substance c.args.substances.now) c.loop-one-test.false (c.loop-one.invariant substance)

pub loop-one-preserved : goal.loop-one-preserved
loop-one-preserved c = λ substance.
    let added = c.in_ok-add.ensures substance in
    one_added c.args.substances.now c.requires.distinct c.args.count c.loop-one.one-index c.one-item.result c.loop-one-test.true c.one-item.is substance
    (amount_held c.loop-one.held.rows substance) (amount_held c.add.new.held.rows substance)
    (amount_held c.args.held.now.rows substance + c.args.count * held_mass substance c.args.substances.now) (c.loop-one.invariant substance)
    (rw (c.from.ensures, c.from-in-loop-one.ensures) at added)
