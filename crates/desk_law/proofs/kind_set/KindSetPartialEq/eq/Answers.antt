use Rattle.std.proofs.Common.{rules}
use Rattle.desk_law.proofs.KindMarks.{pointwise-marks}
use Rattle.desk_law.proofs.kind_set.KindSetPartialEq.eq.Goals as goal

pub returns : goal.returns
returns c = search (rules, pointwise-marks)
