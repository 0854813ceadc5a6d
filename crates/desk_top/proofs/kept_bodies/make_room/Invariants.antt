use Rattle.std.proofs.Common.{◌≡◌, take}
use Rattle.std.specs.Prelude.{if◌then◌else◌}
use Rattle.desk_edge.specs.declared.key.Key.{Key}
use Rattle.desk_top.specs.KeptBodies.{is_key_among, stands, with_room}
use Rattle.desk_top.proofs.kept_bodies.make_room.Given as goal

abbrev pub invariant-loop-key : goal.invariant-loop-key
invariant-loop-key l = (key : Key) → stands l.bodies.entries key ≡ (if is_key_among (take l.key-index l.keys) key then with_room (stands l.fn.bodies.entries key) else stands l.fn.bodies.entries key)
