use Rattle.std.proofs.Common.{◌≡◌, drop}
use Rattle.desk_rollup.specs.Numbers.{has, mark_numbers}
use Rattle.desk_rollup.proofs.mark.has_number.Given as goal

abbrev pub invariant-loop-mark : goal.invariant-loop-mark
invariant-loop-mark l = has (mark_numbers l.marks) l.number ≡ has (mark_numbers (drop l.mark-index l.marks)) l.number
