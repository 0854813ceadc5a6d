use Rattle.desk_ground_tests.proofs.rollup.drop_line.Given as goal

abbrev pub ghosts-enter : goal.ghosts-enter
ghosts-enter a = record { name = a.blank.name; parts = a.blank.parts }
