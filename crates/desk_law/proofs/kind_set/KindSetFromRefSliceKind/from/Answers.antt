use Rattle.std.proofs.Common.{sym, ◌∙◌}
use Rattle.desk_law.proofs.KindSets.{set_of-more, set_of-none}
use Rattle.desk_law.proofs.kind_set.KindSetFromRefSliceKind.from.Goals as goal

pub loop-kind-init : goal.loop-kind-init
loop-kind-init c = c.new-set.ensures ∙ sym set_of-none

pub loop-kind-preserved : goal.loop-kind-preserved
loop-kind-preserved c =
    rw (c.insert.ensures.new, c.loop-kind.invariant) (set_of-more c.args.kinds.now c.loop-kind.kind-index _ c.loop-kind-test.true)
