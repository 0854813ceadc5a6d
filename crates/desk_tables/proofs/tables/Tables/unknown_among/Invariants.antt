use Rattle.std.proofs.Common.{◌≡◌, not, find, drop, map}
use Rattle.desk_model.specs.Lists.{is_substance}
use Rattle.desk_tables.proofs.tables.Tables.unknown_among.Given as goal

abbrev pub invariant-loop-held : goal.invariant-loop-held
invariant-loop-held l =
    find (λ code. not (is_substance l.self.lists code)) (map (λ held. held.substance) (drop l.held-index l.substances))
    ≡ find (λ code. not (is_substance l.self.lists code)) (map (λ held. held.substance) l.substances)
