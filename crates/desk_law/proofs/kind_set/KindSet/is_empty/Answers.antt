use Rattle.desk_law.proofs.KindMarks.{set_of-marked_kinds}
use Rattle.desk_law.proofs.KindSets.{is_empty-marks}
use Rattle.desk_law.proofs.kind_set.KindSet.is_empty.Goals as goal

pub returns-clause-empty : goal.returns-clause-empty
returns-clause-empty c = is_empty-marks c.self.inside.marks c.args.self.now c.eq.result c.self.told c.self.view_is c.eq.ensures

pub returns-clause-form : goal.returns-clause-form
returns-clause-form c = rw (← c.self.view_is) (set_of-marked_kinds c.self.inside.marks)
