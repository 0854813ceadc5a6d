use Rattle.desk_ground_tests.proofs.rollup.has_plain_hops.Goals as goal

pub next-requires : goal.next-requires
next-requires c = tt
