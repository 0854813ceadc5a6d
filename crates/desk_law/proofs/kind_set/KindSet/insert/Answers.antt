use Rattle.std.proofs.Common.{sym, ap, arith, ◌<◌, length}
use Rattle.std.specs.Prelude.{not}
use Rattle.desk_law.specs.Kind.{kind_place}
use Rattle.desk_law.proofs.KindMarks.{has_kind-marked_kinds, marked_kinds-set}
use Rattle.desk_law.proofs.kind_set.KindSet.insert.Goals as goal

pub returns-clause-new : goal.returns-clause-new
returns-clause-new c =
    let inside : kind_place c.args.kind < length c.self.inside.marks = omega arith in
    rw (c.place-2.ensures.place, ← c.self.view_is) (marked_kinds-set c.self.inside.marks c.args.kind inside)

pub returns-clause-was : goal.returns-clause-was
returns-clause-was c =
    rw (c.place.ensures.place, ← c.self.view_is) (ap not (sym (has_kind-marked_kinds c.self.inside.marks c.args.kind)))
