-- What is left to add to the declaration so far is what was to be added at first.
use Rattle.std.proofs.Common.{◌≡◌, ◌+◌, ◌≤◌, ◌^◌, length}
use Rattle.desk_declare.specs.Declaration.{rows_added}
use Rattle.desk_declare.proofs.read.add_rows.Given as goal

abbrev pub invariant-rows : goal.invariant-rows
invariant-rows l = (rows_added 2 l.fn.rows l.fn.declaration ≡ rows_added (l.place + 1) l.rows l.declaration) × (l.place + 1 + length l.rows ≤ 2 ^ 64)

abbrev pub decreases-rows : goal.decreases-rows
decreases-rows l = length l.rows
