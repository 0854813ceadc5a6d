use Rattle.desk_engine.proofs.engine.Engine.prepare_uncounted.Given as goal

-- the ledger that was just opened
abbrev pub ghosts-prepare_from : goal.ghosts-prepare_from
ghosts-prepare_from a = record { name = a.blank.name; parts = a.blank.parts }
