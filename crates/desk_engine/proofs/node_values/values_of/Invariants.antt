use Rattle.desk_engine.proofs.node_values.values_of.Given as goal

-- the ledger that was just opened
abbrev pub ghosts-values_uncounted : goal.ghosts-values_uncounted
ghosts-values_uncounted a = record { name = a.blank.name; parts = a.blank.parts }
