use Rattle.std.proofs.Common.{arith}
use Rattle.desk_top.specs.KeptBodies.{cleared, stands}
use Rattle.desk_top.proofs.KeptBodies.{cleared_again, one_more}
use Rattle.desk_top.proofs.kept_bodies.clear_all.Goals as goal

pub loop-key-preserved : goal.loop-key-preserved
loop-key-preserved c = λ other.
    one_more cleared cleared_again c.args.keys.now c.loop-key.key-index c.key-item.result other (stands c.args.bodies.now.entries other) (stands c.loop-key.bodies.entries other) (stands c.clear.new.bodies.entries other)
    (omega arith) c.key-item.is (c.loop-key.invariant other) (c.clear.ensures other)
