-- The rows so far are good, so that all are exactly where the rest are.
use Rattle.std.proofs.Common.{◌≡◌, drop, length, false}
use Rattle.std.specs.Prelude.{nat_lt}
use Rattle.std.specs.List.{list_all}
use Rattle.desk_tables.proofs.tested_row.first_broken.Given as goal

abbrev pub invariant-loop-place : goal.invariant-loop-place
invariant-loop-place g l =
    (list_all (g.R.TestedRow.fits l.tables.lists) l.rows ≡ list_all (g.R.TestedRow.fits l.tables.lists) (drop l.place l.rows))
    × (nat_lt l.limit (length l.rows) ≡ false)
