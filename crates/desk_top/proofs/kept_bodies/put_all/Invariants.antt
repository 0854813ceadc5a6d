use Rattle.std.proofs.Common.{◌≡◌, true, map, IsSome}
use Rattle.std.specs.Vec.Iter.{into_iter_items}
use Rattle.desk_edge.specs.declared.key.Key.{Key}
use Rattle.desk_top.specs.KeptBodies.{is_key_among, body_among, stands}
use Rattle.desk_top.proofs.kept_bodies.put_all.Given as goal

abbrev pub invariant-loop-key : goal.invariant-loop-key
invariant-loop-key l =
    (goal.iterator-loop-key).can_next l.key-iterator ×
    (goal.iterator-loop-key).is_finite l.key-iterator ×
    ((key : Key) → is_key_among (map (λ new. new.0) (into_iter_items l.key-iterator)) key ≡ true → IsSome (stands l.bodies.entries key)) ×
    ((key : Key) → body_among (into_iter_items l.key-iterator) key (stands l.bodies.entries key) ≡ body_among (into_iter_items l.initial.key-iterator) key (stands l.initial.bodies.entries key))
