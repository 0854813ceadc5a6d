use Rattle.desk_ground_tests.proofs.rollup.values_of.Given as goal

abbrev pub ghosts-values_in : goal.ghosts-values_in
ghosts-values_in a = record { name = a.blank.name; parts = a.blank.parts }
