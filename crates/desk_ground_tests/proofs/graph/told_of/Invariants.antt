use Rattle.desk_ground_tests.proofs.graph.told_of.Given as goal

abbrev pub ghosts-lines_of : goal.ghosts-lines_of
ghosts-lines_of g a = record { name = a.blank.name; parts = a.blank.parts }
