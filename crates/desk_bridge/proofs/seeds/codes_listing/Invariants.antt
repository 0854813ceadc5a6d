use Rattle.std.proofs.Common.{◌≡◌, ◌++◌, drop, filter, map}
use Rattle.desk_history.specs.Affected.{lists_substance}
use Rattle.desk_bridge.proofs.seeds.codes_listing.Given as goal

abbrev pub invariant-loop-material : goal.invariant-loop-material
invariant-loop-material l = l.codes.items ++ map (λ material. material.code) (filter (lists_substance l.substance) (drop l.material-index l.materials)) ≡ map (λ material. material.code) (filter (lists_substance l.substance) l.materials)
