use Rattle.desk_ground_tests.proofs.rollup.has_plain_hops.Given as goal

abbrev pub invariant-loop-mark : goal.invariant-loop-mark
invariant-loop-mark l = (goal.iterator-loop-mark).can_next l.hops × (goal.iterator-loop-mark).is_finite l.hops
