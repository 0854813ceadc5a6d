use Rattle.std.proofs.Common.{sym}
use Rattle.desk_law.proofs.KindMarks.{has_kind-marked_kinds, set_of-marked_kinds}
use Rattle.desk_law.proofs.kind_set.KindSet.contains.Goals as goal

pub returns-clause-value : goal.returns-clause-value
returns-clause-value c =
    rw (c.place.ensures.place, ← c.self.view_is) (sym (has_kind-marked_kinds c.self.inside.marks c.args.kind))

pub returns-clause-form : goal.returns-clause-form
returns-clause-form c = rw (← c.self.view_is) (set_of-marked_kinds c.self.inside.marks)
