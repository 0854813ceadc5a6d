use Rattle.desk_ground_tests.proofs.rollup.chain_of.Given as goal

abbrev pub ghosts-chain_in : goal.ghosts-chain_in
ghosts-chain_in a = record { name = a.blank.name; parts = a.blank.parts }
