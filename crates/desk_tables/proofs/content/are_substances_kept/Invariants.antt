use Rattle.std.proofs.Common.{◌≡◌, drop}
use Rattle.std.specs.List.{list_all}
use Rattle.desk_model.specs.Lists.{is_substance}
use Rattle.desk_tables.proofs.content.are_substances_kept.Given as goal

abbrev pub invariant-loop-one : goal.invariant-loop-one
invariant-loop-one l = list_all (λ held. is_substance l.tables.lists held.substance) l.held ≡ list_all (λ held. is_substance l.tables.lists held.substance) (drop l.one-index l.held)
