use Rattle.desk_top.proofs.KeptBodies.{room_for_first}
use Rattle.desk_top.proofs.kept_bodies.put_all.Goals as goal

pub put-requires : goal.put-requires
put-requires c = room_for_first c.loop-key.bodies.entries _ _ c.in-Some.key c.in-Some.body c.in-Some.ensures.steps.0 c.loop-key.invariant.2
