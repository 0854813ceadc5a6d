use Rattle.std.proofs.Common.{◌≡◌, not, find, drop, map}
use Rattle.std.specs.List.{flat_map}
use Rattle.desk_model.specs.Lists.{is_substance}
use Rattle.desk_tables.proofs.tables.Tables.first_unknown.Given as goal

abbrev pub invariant-loop-material : goal.invariant-loop-material
invariant-loop-material l =
    find (λ code. not (is_substance l.self.lists code)) (flat_map (λ material. map (λ held. held.substance) material.substances) (drop l.material-index l.materials))
    ≡ find (λ code. not (is_substance l.self.lists code)) (flat_map (λ material. map (λ held. held.substance) material.substances) l.materials)
