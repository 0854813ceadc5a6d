use Rattle.std.proofs.Common.{◌≡◌, drop}
use Rattle.desk_totals.specs.Linked.{are_codes_distinct}
use Rattle.desk_model_tests.proofs.totals.are_distinct.Given as goal

abbrev pub invariant-loop-place : goal.invariant-loop-place
invariant-loop-place l = are_codes_distinct l.codes ≡ are_codes_distinct (drop l.place l.codes)
