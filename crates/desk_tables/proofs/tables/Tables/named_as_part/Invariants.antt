use Rattle.std.proofs.Common.{◌≡◌, find, drop}
use Rattle.desk_model.specs.Lists.{is_part}
use Rattle.desk_tables.proofs.tables.Tables.named_as_part.Given as goal

abbrev pub invariant-loop-material : goal.invariant-loop-material
invariant-loop-material l =
    find (λ material. is_part l.self.lists material.code) (drop l.material-index l.material-items)
    ≡ find (λ material. is_part l.self.lists material.code) l.material-items
