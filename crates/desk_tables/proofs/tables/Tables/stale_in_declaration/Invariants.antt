use Rattle.std.proofs.Common.{◌≡◌, drop, map}
use Rattle.desk_history.specs.Refused.{first_some, stale_fault}
use Rattle.desk_tables.proofs.tables.Tables.stale_in_declaration.Given as goal

abbrev pub invariant-loop-material : goal.invariant-loop-material
invariant-loop-material l =
    first_some (map (stale_fault l.self.lists l.declaration.number) (drop l.material-index l.material-items))
    ≡ first_some (map (stale_fault l.self.lists l.declaration.number) l.material-items)
