use Rattle.std.proofs.Common.{◌≡◌, take}
use Rattle.std.specs.Option.{option_copied}
use Rattle.desk_bridge.specs.RowsAfter.{last_of}
use Rattle.desk_bridge.proofs.rows_after.last_of_any.Given as goal

abbrev pub invariant-loop-row : goal.invariant-loop-row
invariant-loop-row g l = option_copied l.found ≡ last_of g.R.Keyed.key g.R.Key.Ord.cmp l.key (take l.row-index l.rows)
