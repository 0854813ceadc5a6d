use Rattle.std.proofs.Common.{◌≡◌, map, take}
use Rattle.desk_top.proofs.kept_bodies.keys_of.Given as goal

abbrev pub invariant-loop-change : goal.invariant-loop-change
invariant-loop-change l = l.keys.items ≡ map (λ new. new.0) (take l.change-index l.changes)
