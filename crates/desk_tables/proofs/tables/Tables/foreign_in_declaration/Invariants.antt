use Rattle.std.proofs.Common.{◌≡◌, drop, map}
use Rattle.desk_history.specs.Refused.{first_some, foreign_fault}
use Rattle.desk_tables.proofs.tables.Tables.foreign_in_declaration.Given as goal

abbrev pub invariant-loop-material : goal.invariant-loop-material
invariant-loop-material l =
    first_some (map (foreign_fault l.self.lists l.declaration.supplier) (drop l.material-index l.material-items))
    ≡ first_some (map (foreign_fault l.self.lists l.declaration.supplier) l.material-items)
