use Rattle.std.proofs.Common.{◌≡◌, ◌++◌, drop, map}
use Rattle.desk_bridge.proofs.seeds.codes_declared.Given as goal

abbrev pub invariant-loop-material : goal.invariant-loop-material
invariant-loop-material l = l.codes.items ++ map (λ material. material.code) (drop l.material-index l.materials) ≡ map (λ material. material.code) l.materials
