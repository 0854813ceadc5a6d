use Rattle.desk_engine.proofs.start.stored_of.Given as goal

-- the ledger that was just opened
abbrev pub ghosts-stored_from : goal.ghosts-stored_from
ghosts-stored_from a = record { name = a.blank.name; parts = a.blank.parts }
