use Rattle.std.proofs.Common.{◌≡◌, find, drop}
use Rattle.desk_model.specs.Content.{holds_too_much}
use Rattle.desk_tables.proofs.declared.too_full_in.Given as goal

abbrev pub invariant-loop-material : goal.invariant-loop-material
invariant-loop-material l =
    find (λ material. holds_too_much material.mass material.substances) (drop l.material-index l.material-items)
    ≡ find (λ material. holds_too_much material.mass material.substances) l.material-items
