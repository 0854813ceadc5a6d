use Rattle.desk_ground_tests.proofs.graph.has_ends.Given as goal

abbrev pub ghosts-both_ends : goal.ghosts-both_ends
ghosts-both_ends a = record { name = a.blank.name; parts = a.blank.parts }
