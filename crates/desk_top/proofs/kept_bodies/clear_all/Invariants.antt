use Rattle.std.proofs.Common.{◌≡◌, take}
use Rattle.std.specs.Prelude.{if◌then◌else◌}
use Rattle.desk_edge.specs.declared.key.Key.{Key}
use Rattle.desk_top.specs.KeptBodies.{cleared, is_key_among, stands}
use Rattle.desk_top.proofs.kept_bodies.clear_all.Given as goal

abbrev pub invariant-loop-key : goal.invariant-loop-key
invariant-loop-key l = (key : Key) → stands l.bodies.entries key ≡ (if is_key_among (take l.key-index l.keys) key then cleared (stands l.fn.bodies.entries key) else stands l.fn.bodies.entries key)
