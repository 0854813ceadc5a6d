use Rattle.std.proofs.Common.{arith}
use Rattle.desk_top.specs.KeptBodies.{stands, with_room}
use Rattle.desk_top.proofs.KeptBodies.{one_more, room_again, some_room}
use Rattle.desk_top.proofs.kept_bodies.make_room.Goals as goal

pub loop-key-preserved : goal.loop-key-preserved
loop-key-preserved c = λ other.
    one_more with_room room_again c.args.keys.now c.loop-key.key-index c.key-item.result other (stands c.args.bodies.now.entries other) (stands c.loop-key.bodies.entries other) (stands c.make_room_for.new.bodies.entries other)
    (omega arith) c.key-item.is (c.loop-key.invariant other) (c.in_ok-make_room_for.ensures.ok other)

pub returns-in_err-make_room_for-clause-some : goal.returns-in_err-make_room_for-clause-some
returns-in_err-make_room_for-clause-some c = λ other.
    some_room c.args.keys.now c.loop-key.key-index other (stands c.args.bodies.now.entries other) (stands c.loop-key.bodies.entries other) (stands c.make_room_for.new.bodies.entries other)
    (c.loop-key.invariant other) (c.in_err-make_room_for.ensures.err other)
