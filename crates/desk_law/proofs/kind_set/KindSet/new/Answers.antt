use Rattle.desk_law.proofs.KindMarks.{marked_kinds-none}
use Rattle.desk_law.proofs.kind_set.KindSet.new.Goals as goal

pub returns : goal.returns
returns c = marked_kinds-none
